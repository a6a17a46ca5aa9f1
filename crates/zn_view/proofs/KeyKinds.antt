-- The kind of each key of the layout, and what was found under one.
use Rattle.std.proofs.Common.{rules, sym, ◌≡◌, refl, ap, ◌∙◌, subst, Bool, true, false, List, [], ◌∷◌}
use Rattle.std.specs.Prelude.{Option, Some, None, All, IfSome, if◌then◌else◌, MatchOption, IsTrue, ◌↔◌, is_some}
use Rattle.std.proofs.lemmas.List.Elements.{All-head, All-tail}
use Rattle.ev_types.specs.declared.answer.Kv.{Kv}
use Rattle.zx_base.specs.Maps.{Bytes, same}
use Rattle.zx_base.proofs.MapLaws.{same-true}
use Rattle.zn_layout.specs.Keys.{Key, HeadKey, DataKey, CountsKey, SessionKey, LeaseKey, key_bytes}
use Rattle.zn_layout.specs.declared.record.HeadRec.{HeadRec}
use Rattle.zn_layout.specs.declared.record.SessionRec.{SessionRec}
use Rattle.zn_layout.specs.Reading.{IsSomeValue, IsReadAs, head_bytes, IsHeadWithin}
use Rattle.zn_layout.specs.Records.{session_value, IsSessionRec}
use Rattle.zn_view.specs.declared.snapshot.SeenKey.{SeenKey}
use Rattle.zn_view.specs.Lookups.{IsNodesIn}
use Rattle.zn_view.specs.declared.kind.Kind.{Kind}
use Rattle.zn_view.specs.declared.kind.Kind.TheVariants.{Head, Data, Counts, Nodes, Life}
use Rattle.zn_view.specs.Seen.{kind_of_bytes, IsOfKind, IsFound, IsSeen, seen_in}

abbrev pub kind_of_key : Key → Kind
kind_of_key HeadKey = Head
kind_of_key (DataKey p) = Data
kind_of_key (CountsKey p) = Counts
kind_of_key (SessionKey n) = Nodes
kind_of_key (LeaseKey n) = Life

pub kind_of-key : (k : Key) → kind_of_bytes (key_bytes k) ≡ Some (kind_of_key k)
unfolding key_bytes
kind_of-key HeadKey = refl
kind_of-key (DataKey p) = refl
kind_of-key (CountsKey p) = refl
kind_of-key (SessionKey n) = refl
kind_of-key (LeaseKey n) = refl

-- what was found under a key of the layout is a record of the key's kind
pub found-of_kind : (k : Key) (kv : Kv) → IsFound (key_bytes k) kv → IsOfKind (Some (kind_of_key k)) kv.value
found-of_kind k kv f = subst (λ (o : Option Kind). IsOfKind o kv.value) (ap kind_of_bytes f.named ∙ kind_of-key k) f.value

seen_at_first : (k : Bytes) (x : SeenKey) (xs : List SeenKey) (kv : Kv) (b : Bool) → same x.key k ≡ b → (All IsSeen xs → seen_in k xs ≡ Some (Some kv) → IsFound k kv)
    → All IsSeen (x ∷ xs) → (if b then Some x.found else seen_in k xs) ≡ Some (Some kv) → IsFound k kv
seen_at_first k x xs kv true e later all h =
    let found : x.found ≡ Some kv = cc in
    let here : IsFound x.key kv = subst (λ (o : Option Kv). IfSome o (IsFound x.key)) found (All-head IsSeen x xs all) in
    subst (λ (l : Bytes). IsFound l kv) (same-true x.key k e) here
seen_at_first k x xs kv false e later all h = later (All-tail IsSeen x xs all) h

pub seen-found : (k : Bytes) (xs : List SeenKey) (kv : Kv) → All IsSeen xs → seen_in k xs ≡ Some (Some kv) → IsFound k kv
seen-found k [] kv all h = absurd (cc)
seen-found k (x ∷ xs) kv all h = seen_at_first k x xs kv (same x.key k) refl (seen-found k xs kv) all h

-- what was seen under a key, if anything was found there, is kept under that key
pub seen-kept : (k : Bytes) (xs : List SeenKey) (o : Option Kv) → All IsSeen xs → seen_in k xs ≡ Some o → IfSome o (IsFound k)
seen-kept k xs None all h = tt
seen-kept k xs (Some kv) all h = seen-found k xs kv all h

pub layout-found : (k : Key) (key : Bytes) (o : Option Kv) → key ≡ key_bytes k → IfSome o (IsFound key) → IfSome o (λ (kv : Kv). IsOfKind (Some (kind_of_key k)) kv.value)
layout-found k key None e h = tt
layout-found k key (Some kv) e h = found-of_kind k kv (subst (λ (l : Bytes). IsFound l kv) e h)

-- the nodes of a session, read from the value that was found
pub nodes-read : (o : Option Kv) (kv : Kv) (r : Option SessionRec) → o ≡ Some kv → IfSome o (λ (x : Kv). IsSomeValue session_value IsSessionRec x.value) → IsReadAs session_value IsSessionRec kv.value r
    → MatchOption r (o ≡ None) (λ n. (x : Kv) × (o ≡ Some x) × IsNodesIn x n)
nodes-read o kv None e h none =
    let some : IsSomeValue session_value IsSessionRec kv.value = subst (λ (p : Option Kv). IfSome p (λ (x : Kv). IsSomeValue session_value IsSessionRec x.value)) e h in
    absurd (none some.0 some.1.0 some.1.1)
nodes-read o kv (Some n) e h is = (kv, e, is)

-- ---- whether a value is a record of a kind

yes : {P : Type 0} → P → IsTrue true ↔ P
yes p = (λ _. p, λ _. search rules)

no : {P : Type 0} → (P → ⊥) → IsTrue false ↔ P
no {P = P} h = (λ t. absurd (cc), λ p. absurd (h p))

pub head-told : (v : Bytes) (o : Option HeadRec) (b : Bool) → b ≡ is_some o → IsReadAs head_bytes IsHeadWithin v o → IsTrue b ↔ IsOfKind (Some Head) v
head-told v (Some r) b e h = subst (λ (x : Bool). IsTrue x ↔ IsOfKind (Some Head) v) (sym e) (yes (r.triggers, h))
head-told v None b e h = subst (λ (x : Bool). IsTrue x ↔ IsOfKind (Some Head) v) (sym e) (no (λ s. h (record { triggers = s.0 }) s.1.0 s.1.1))

pub nodes-told : (v : Bytes) (o : Option SessionRec) (b : Bool) → b ≡ is_some o → IsReadAs session_value IsSessionRec v o → IsTrue b ↔ IsOfKind (Some Nodes) v
nodes-told v (Some r) b e h = subst (λ (x : Bool). IsTrue x ↔ IsOfKind (Some Nodes) v) (sym e) (yes (r, h))
nodes-told v None b e h = subst (λ (x : Bool). IsTrue x ↔ IsOfKind (Some Nodes) v) (sym e) (no (λ s. h s.0 s.1.0 s.1.1))
