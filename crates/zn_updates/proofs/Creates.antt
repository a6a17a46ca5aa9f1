-- The creates that a view saw of a node, by its record and by that of its counts.
use Rattle.std.proofs.Common.{◌≡◌, ℕ, Option, Some, None, sym, ap, ◌∙◌}
use Rattle.std.specs.Prelude.{nat_abs, option_map}
use Rattle.ev_types.specs.declared.answer.Kv.{Kv}
use Rattle.zn_layout.specs.declared.record.CountRec.{CountRec}
use Rattle.zn_layout.proofs.Nodes.{counts_value-injective}
use Rattle.zn_view.specs.Needs.{AreCreatesSeen}
use Rattle.zn_updates.specs.declared.seen.SeenData.{SeenData}
use Rattle.zn_updates.specs.declared.seen.SeenCounts.{SeenCounts}
use Rattle.zn_updates.specs.Deciding.{IsDataFound, creates_seen}
use Rattle.zn_updates.specs.Making.{IsDataSeen, IsCountsSeen, uncounted}

-- they are one number
pub creates-one : (a b : Option (Option Kv)) (c : Option ℕ) (n : ℕ) → AreCreatesSeen a b c → AreCreatesSeen a b (Some n) → c ≡ Some n
creates-one a None c n h g = absurd (cc)
creates-one a (Some (Some kv)) c n h g = h.2 ∙ ap (λ (k : CountRec). Some (nat_abs k.creates)) (counts_value-injective h.0 g.0 h.1.0 g.1.0 (sym h.1.1 ∙ g.1.1)) ∙ sym g.2
creates-one (Some (Some kv)) (Some None) c n h g = h ∙ sym g
creates-one (Some None) (Some None) c n h g = absurd (cc)
creates-one None (Some None) c n h g = absurd (cc)

-- they are those of the counts in force
pub creates-found : (a b : Option (Option Kv)) (x : Option SeenData) (c : Option SeenCounts) → IsDataFound a x → IsCountsSeen x b c → AreCreatesSeen a b (creates_seen c)
creates-found a None x c found h = absurd h
creates-found a (Some (Some kv)) x None found h = absurd h
creates-found a (Some (Some kv)) x (Some w) found h = (h.0, h.1, ap (λ (k : SeenCounts). Some (nat_abs k.counts.creates)) h.2)
creates-found None (Some None) x c found h = ap creates_seen (h ∙ ap (option_map uncounted) found)
creates-found (Some None) (Some None) None c found h = ap creates_seen h
creates-found (Some None) (Some None) (Some y) c found h = absurd found
creates-found (Some (Some kv)) (Some None) None c found h = absurd found
creates-found (Some (Some kv)) (Some None) (Some y) c found h = ap creates_seen h

pub creates-are : (a b : Option (Option Kv)) (x : Option SeenData) (c : Option SeenCounts) → IsDataSeen a x → IsCountsSeen x b c → AreCreatesSeen a b (creates_seen c)
creates-are None b x c seen h = absurd seen
creates-are (Some o) b x c seen h = creates-found (Some o) b x c seen h
