-- No number that a view shows is below 0, nor one that a connection keeps of it.
use Rattle.std.proofs.Common.{◌≡◌, ℤ, Bool, true, false, List, [], ◌∷◌, subst, cond}
use Rattle.std.proofs.lemmas.List.Elements.{All-append, All-cons, All-head, All-nil, All-tail}
use Rattle.std.specs.Prelude.{All, IfSome, None, Option, Some}
use Rattle.ev_types.specs.declared.answer.ActAns.{ActAns}
use Rattle.ev_types.specs.declared.answer.Kv.{Kv}
use Rattle.zn_layout.specs.Keys.{HeadKey, Key, key_bytes}
use Rattle.zn_view.specs.Adding.{at_revision, is_new}
use Rattle.zn_view.specs.Asks.{found_in, kept_under, last_part, with_part, with_parts}
use Rattle.zn_view.specs.Lookups.{found_at}
use Rattle.zn_view.specs.Seen.{View, empty_view, found_of, head_number, head_of, head_zxid, seen_in}
use Rattle.zn_view.specs.declared.snapshot.SeenKey.{SeenKey}
use Rattle.zn_view.specs.declared.want.Want.TheVariants as want
use Rattle.zn_view.specs.declared.want.Want.{Want}
use Rattle.zs_session.specs.Answering.{viewed}
use Rattle.zs_session.specs.Connecting.{number_shown}
use Rattle.zx_base.specs.Maps.{Bytes, same}
use Rattle.zp_verdict_laws.proofs.Stored.{AreNaturalParts, IsNatural, IsNaturalKv, IsNaturalPart, natural}

abbrev pub IsNaturalSeen : SeenKey → Type 0
IsNaturalSeen x = IfSome x.found IsNaturalKv

pub record IsNaturalView (v : View) : Type 0 where
  pub revision : IsNatural v.revision
  pub keys : All IsNaturalSeen v.keys

-- ---- a view grows

kept-natural : (k : Bytes) (kvs : List Kv) → All IsNaturalKv kvs → IfSome (kept_under k kvs) IsNaturalKv
kept-natural k [] h = tt
kept-natural k (kv ∷ kvs) h = go (same kv.key k) (kept-natural k kvs (All-tail IsNaturalKv kv kvs h))
  where
    go : (b : Bool) → IfSome (kept_under k kvs) IsNaturalKv → IfSome (cond b (Some kv) (kept_under k kvs)) IsNaturalKv
    go true later = All-head IsNaturalKv kv kvs h
    go false later = later

part-natural : (v : View) (w : Want) (a : ActAns) → IsNaturalView v → IsNaturalPart a → IsNaturalView (with_part v w a)
part-natural v (want.Key k) a h part = record {
  revision = h.revision;
  keys = All-append IsNaturalSeen v.keys _ h.keys (All-cons IsNaturalSeen (record { key = k; found = kept_under k (found_in a) }) [] (kept-natural k (found_in a) part) (All-nil IsNaturalSeen));
}
part-natural v (want.Children p) a h part = record { revision = h.revision; keys = h.keys }

pub parts-natural : (v : View) (ws : List Want) (parts : List ActAns) → IsNaturalView v → AreNaturalParts parts → IsNaturalView (with_parts v ws parts)
parts-natural v [] parts h all = h
parts-natural v (w ∷ ws) [] h all = h
parts-natural v (w ∷ ws) (a ∷ more) h all = parts-natural (with_part v w a) ws more (part-natural v w a h (All-head IsNaturalPart a more all)) (All-tail IsNaturalPart a more all)

pub at-natural : (v : View) (z : ℤ) → IsNaturalView v → IsNatural z → IsNaturalView (at_revision v z)
at-natural v z h n = go (is_new v)
  where
    go : (b : Bool) → IsNaturalView (cond b (record v { revision = z }) v)
    go true = record { revision = n; keys = h.keys }
    go false = h

pub empty-natural : IsNaturalView empty_view
empty-natural = record { revision = natural 0; keys = All-nil IsNaturalSeen }

pub viewed-natural : (z : ℤ) (ws : List Want) (parts : List ActAns) → IsNatural z → AreNaturalParts parts → IsNaturalView (viewed z ws parts)
viewed-natural z ws parts n all = parts-natural (at_revision empty_view z) ws parts (at-natural empty_view z empty-natural n) all

-- ---- what it shows

seen-natural : (k : Bytes) (xs : List SeenKey) → All IsNaturalSeen xs → IfSome (found_of (seen_in k xs)) IsNaturalKv
seen-natural k [] h = tt
seen-natural k (x ∷ xs) h = go (same x.key k) (seen-natural k xs (All-tail IsNaturalSeen x xs h))
  where
    go : (b : Bool) → IfSome (found_of (seen_in k xs)) IsNaturalKv → IfSome (found_of (cond b (Some x.found) (seen_in k xs))) IsNaturalKv
    go true later = All-head IsNaturalSeen x xs h
    go false later = later

pub found-natural : (v : View) (k : Key) (kv : Kv) → IsNaturalView v → found_at v k ≡ Some kv → IsNaturalKv kv
found-natural v k kv h e = subst (λ (o : Option Kv). IfSome o IsNaturalKv) e (seen-natural (key_bytes k) v.keys h.keys)

of-number : (o : Option Kv) → IfSome o IsNaturalKv → IsNatural (head_number o)
of-number None h = natural 0
of-number (Some kv) h = h.version

of-zxid : (o : Option Kv) → IfSome o IsNaturalKv → IsNatural (head_zxid o)
of-zxid None h = natural 0
of-zxid (Some kv) h = h.revision

pub view-number : (v : View) → IsNaturalView v → IsNatural (head_number (head_of v))
view-number v h = of-number (head_of v) (seen-natural (key_bytes HeadKey) v.keys h.keys)

pub view-zxid : (v : View) → IsNaturalView v → IsNatural (head_zxid (head_of v))
view-zxid v h = of-zxid (head_of v) (seen-natural (key_bytes HeadKey) v.keys h.keys)

-- ---- the last part of an answer

last-natural : (parts : List ActAns) → AreNaturalParts parts → All IsNaturalKv (last_part parts)
last-natural [] h = All-nil IsNaturalKv
last-natural (a ∷ []) h = All-head IsNaturalPart a [] h
last-natural (a ∷ b ∷ more) h = last-natural (b ∷ more) (All-tail IsNaturalPart a (b ∷ more) h)

pub number-natural : (parts : List ActAns) → AreNaturalParts parts → IsNatural (number_shown parts)
number-natural parts h = of-number (kept_under (key_bytes HeadKey) (last_part parts)) (kept-natural (key_bytes HeadKey) (last_part parts) (last-natural parts h))
