-- Keys mean the same where look-ups give the same; and the numbers of sessions.
use Rattle.std.proofs.Common.{◌^◌, ◌<◌, ◌≡◌, ℕ, ℤ, pos, Bool, true, false, List, Option, Some, None, refl, sym, ap, ◌∙◌, subst, arith, eqb-true, ◌+ℤ◌}
use Rattle.std.proofs.lemmas.Bool.{eqb-false, true≢false}
use Rattle.std.specs.Prelude.{◌≤ℤ◌, nat_abs, nat_eq}
use Rattle.std.specs.Ordering.{int_eq}
use Rattle.std.proofs.lemmas.Int.{ints}
use Rattle.zx_base.specs.Maps.{Bytes}
use Rattle.zk_model.specs.declared.node.Node.{Node}
use Rattle.zk_model.specs.Znodes.{Tree}
use Rattle.zk_service.specs.States.{State, Session}
use Rattle.zn_layout.specs.Records.{node_value, counts_value, IsLongCount, IsNodeRec, IsCountRec}
use Rattle.zn_layout.specs.StandsFor.{Stored, data_record, is_counted_in, IsUncounted, DataMeans, CountsMean, NodesMean}
use Rattle.zn_updates.specs.Right.{with_tree}
use Rattle.zx_base.proofs.Booleans.{same-from_int_eq, same-int}

-- a node whose data stay
pub data_same : (o : Option Stored) (x y : Node) → ((c : ℤ) → data_record x c ≡ data_record y c) → y.czxid ≡ x.czxid → y.mzxid ≡ x.mzxid → DataMeans (Some x) o → DataMeans (Some y) o
data_same None x y r c m h = h
data_same (Some o) x y r c m h = record {
  stored = h.stored;
  fits = subst IsNodeRec (r h.stored) h.fits;
  value = h.value ∙ ap node_value (r h.stored);
  made = c ∙ h.made;
  changed = m ∙ h.changed;
  free = h.free;
}

pub data_along : (o : Option Stored) (a b : Option Node) → b ≡ a → DataMeans a o → DataMeans b o
data_along o a b e h = subst (λ (x : Option Node). DataMeans x o) (sym e) h

pub counts_along : (o : Option Stored) (a b : Option Node) (m n : ℕ) (d e : Bool) → b ≡ a → n ≡ m → e ≡ d → CountsMean a m d o → CountsMean b n e o
counts_along o a b m n d e f g i h = subst (λ (x : Option Node). CountsMean x n e o) (sym f) (subst (λ (k : ℕ). CountsMean a k e o) (sym g) (subst (λ (t : Bool). CountsMean a m t o) (sym i) h))

-- a node whose counts stay
pub counts_same : (o : Option Stored) (x y : Node) (n : ℕ) (b : Bool) → y.creates ≡ x.creates → y.pzxid ≡ x.pzxid → y.czxid ≡ x.czxid → CountsMean (Some x) n b o → CountsMean (Some y) n b o
counts_same None x y n true c z m h = h
counts_same None x y n false c z m h = record { creates = c ∙ h.creates; childless = h.childless; pzxid = z ∙ h.pzxid ∙ sym m }
counts_same (Some o) x y n false c z m h = h
counts_same (Some o) x y n true c z m h = record {
  fits = subst (λ (k : ℤ). IsCountRec (record { creates = k; children = pos n })) (sym c) h.fits;
  value = h.value ∙ ap (λ (k : ℤ). counts_value (record { creates = k; children = pos n })) (sym c);
  pzxid = z ∙ h.pzxid;
  free = h.free;
}

-- a node that comes without a record of its counts, where none was
pub none_uncounted : (o : Option Stored) (x : Node) (m n : ℕ) (d : Bool) → IsUncounted x n → CountsMean None m d o → CountsMean (Some x) n false o
none_uncounted None x m n d new was = new
none_uncounted (Some o) x m n d new was = absurd was

-- a node that goes, and had no record of its counts
pub uncounted_none : (o : Option Stored) (x : Node) (m n : ℕ) (d : Bool) → CountsMean (Some x) m false o → CountsMean None n d o
uncounted_none None x m n d was = tt
uncounted_none (Some o) x m n d was = absurd was

-- ---- which nodes have a record of their counts

counted_same : (s : State) (t : Tree) (n : Option Node) → is_counted_in (with_tree s t) n ≡ is_counted_in s n
counted_same s t None = refl
counted_same s t (Some n) = refl

-- a change of the tree leaves the sessions, and so this
pub counted_along : (s : State) (t : Tree) (a b : Option Node) → b ≡ a → is_counted_in (with_tree s t) b ≡ is_counted_in s a
counted_along s t a b e = counted_same s t b ∙ ap (is_counted_in s) e

closed_means : (a b : List Bytes) (o : Option Stored) → NodesMean None a o → NodesMean None b o
closed_means a b None h = h
closed_means a b (Some o) h = h

-- a session that isn't open owns nothing that matters
pub nodes_along : (x : Option Session) (a b : List Bytes) (o : Option Stored) → ((y : Session) → x ≡ Some y → b ≡ a) → NodesMean x a o → NodesMean x b o
nodes_along None a b o same h = closed_means a b o h
nodes_along (Some y) a b o same h = subst (λ (ps : List Bytes). NodesMean (Some y) ps o) (sym (same y refl)) h

-- ---- the numbers of sessions

pub int_eq-apart : (a b : ℤ) → (a ≡ b → ⊥) → int_eq a b ≡ false
int_eq-apart a b h = elim (int_eq a b) as (λ t. int_eq a b ≡ t → t ≡ false) [ true ↦ λ e. absurd (h (same-from_int_eq a b e)) | false ↦ λ e. refl ] refl

pub below_most : (n most : ℤ) → n ≤ℤ most → int_eq n most ≡ false → (n +ℤ pos 1) ≤ℤ most
below_most n most h apart = let far : n ≡ most → ⊥ = λ e. true≢false (sym (same-int n most e) ∙ apart) in omega (arith, ints)

pub of_abs : (id : ℤ) → pos 0 ≤ℤ id → pos (nat_abs id) ≡ id
of_abs id h = omega (arith, ints)

-- the number in a session's key is the session's
pub session_is : (r : ℕ) (id : ℤ) → pos 0 ≤ℤ id → nat_eq r (nat_abs id) ≡ true → pos r ≡ id
session_is r id h e = ap pos (eqb-true r (nat_abs id) e) ∙ of_abs id h

pub session_other : (r : ℕ) (id : ℤ) → nat_eq r (nat_abs id) ≡ false → id ≡ pos r → ⊥
session_other r id e is = eqb-false r (nat_abs id) e (ap nat_abs (sym is))

-- ---- numbers within their bounds

pub time_within : (now : ℕ) → now < 2 ^ 62 → IsLongCount (pos now)
time_within now h = record { least = omega (arith, ints); most = omega (arith, ints) }

pub zero_within : IsLongCount (pos 0)
zero_within = record { least = omega (arith, ints); most = omega (arith, ints) }
