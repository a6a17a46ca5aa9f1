-- The keys that the parts of a multi read, beside the head and the record of the session's life, are what the multi reads.
use Rattle.std.proofs.Common.{◌≡◌, ◌≤◌, ◌+◌, true, false, Bool, length, List, [], ◌∷◌, ◌++◌, ◌||◌, Some, None, refl, sym, ap, subst, ◌⊎◌, inl, inr, ⊎_elim, arith}
use Rattle.std.specs.Prelude.{fold, map, nat_abs, nat_lt, if◌then◌else◌}
use Rattle.std.specs.List.{flat_map, list_any}
use Rattle.std.proofs.lemmas.Bool.Decides.{nat_tests}
use Rattle.std.proofs.lemmas.List.{length-append}
use Rattle.zx_base.specs.Maps.{Bytes, same}
use Rattle.zx_base.proofs.MapLaws.{same-true}
use Rattle.zk_model.specs.declared.request.Part.{Part}
use Rattle.zk_model.specs.declared.request.Request.TheVariants as req
use Rattle.zk_model.specs.Codes.{bad_arguments}
use Rattle.zk_model.specs.declared.reply.Reply.TheVariants as reply
use Rattle.zk_model.specs.Limits.{max_parts}
use Rattle.zk_model.specs.Watches.{no_watches}
use Rattle.zk_service.specs.Answers.{plain_request, told}
use Rattle.zn_layout.specs.Keys.{Key, HeadKey, LeaseKey, key_bytes}
use Rattle.zn_view.specs.declared.plan.Who.{Who}
use Rattle.zn_view.specs.declared.want.Want.{Want}
use Rattle.zn_view.specs.Lacking.{lacking}
use Rattle.zn_view.specs.Lookups.{HasSeen}
use Rattle.zn_view.specs.Needs.{AreNeeds, IsRead, IsWhole, key_want}
use Rattle.zn_view.specs.Seen.{View}
use Rattle.zn_view.specs.Views.{part_reads, reads}
use Rattle.zn_view.proofs.Members.{In, contains_in, in_contains, in_either, in_left, in_right}
use Rattle.zn_view.proofs.Wanted.{are-needs, no-needs}
use Rattle.zn_updates.specs.KeysRead.{start_keys}
use Rattle.zn_multi.specs.Reading.{AreRead, each_new, with_new}
use Rattle.zn_multi.proofs.ReadKeys.{follows_to, read_from, read_to, start_left}

-- ---- a multi of at most `max_parts` parts is not answered by its form

multi_plain : (parts : List Part) (b : Bool) → nat_lt max_parts (length parts) ≡ b → plain_request no_watches (req.Multi parts) ≡ (if b then told no_watches (reply.Refused bad_arguments) else None)
unfolding plain_request
multi_plain parts b e = ap (λ c. if c then told no_watches (reply.Refused bad_arguments) else None) e

few_test : (parts : List Part) → length parts ≤ max_parts → nat_lt max_parts (length parts) ≡ false
few_test parts few = grind (arith, nat_tests)

pub plain_few : (parts : List Part) → length parts ≤ max_parts → plain_request no_watches (req.Multi parts) ≡ None
plain_few parts few = multi_plain parts false (few_test parts few)

module _ (parts : List Part) (who : Who) (v : View) (ks : List Key) (read : AreRead who.session v parts ks) where
  reads_are : reads (req.Multi parts) who.session ≡ flat_map (part_reads who.session) parts
  unfolding reads
  reads_are = refl

  pub multi_from : (k : Key) → In k (start_keys who.session ++ ks) → IsRead (req.Multi parts) who v (key_want k)
  multi_from k (inl e) = inl (ap key_want (sym e))
  multi_from k (inr (inl e)) = inr (inl (ap key_want (sym e)))
  multi_from k (inr (inr i)) = ⊎_elim
      (λ a. inr (inr (inl (k, in_contains k _ (subst (In k) (sym reads_are) a), refl))))
      (λ b. inr (inr (inr b)))
      (read_from who.session v parts [] (Some []) (start_left who.session v) ks read k i)

  pub multi_to : (w : Want) → IsRead (req.Multi parts) who v w → (k : Key) × In k (start_keys who.session ++ ks) × (w ≡ key_want k)
  multi_to w (inl e) = (HeadKey, inl refl, e)
  multi_to w (inr (inl e)) = (LeaseKey (nat_abs who.session), inr (inl refl), e)
  multi_to w (inr (inr (inl h))) = (h.0, inr (inr (read_to who.session v parts [] (Some []) (start_left who.session v) ks read h.0 (subst (In h.0) reads_are (contains_in h.0 _ h.1)))), h.2)
  multi_to w (inr (inr (inr h))) = let k = follows_to who.session v parts [] (Some []) (start_left who.session v) ks read w h in (k.0, inr (inr k.1), k.2)

  pub multi_needs : (ws : List Want) → length parts ≤ max_parts → ws ≡ lacking v (map key_bytes (start_keys who.session ++ ks)) → AreNeeds (req.Multi parts) who v ws
  multi_needs ws few is = are-needs (req.Multi parts) who v (start_keys who.session ++ ks) ws is (plain_few parts few) multi_from multi_to

  -- a view that lacks nothing saw all these keys
  pub whole_seen : length parts ≤ max_parts → IsWhole (req.Multi parts) who v → (k : Key) → In k (start_keys who.session ++ ks) → HasSeen v k
  whole_seen few whole k i none = whole (plain_few parts few) (key_want k) (multi_from k i) none

-- a view that lacks nothing saw the record of the session's life
pub whole_life : (parts : List Part) (who : Who) (v : View) → length parts ≤ max_parts → IsWhole (req.Multi parts) who v → HasSeen v (LeaseKey (nat_abs who.session))
whole_life parts who v few whole none = whole (plain_few parts few) (key_want (LeaseKey (nat_abs who.session))) (inr (inl refl)) none

pub many_test : (parts : List Part) → nat_lt max_parts (length parts) ≡ true → plain_request no_watches (req.Multi parts) ≡ told no_watches (reply.Refused bad_arguments)
many_test parts e = multi_plain parts true e

pub many_needs : (parts : List Part) (who : Who) (v : View) (ws : List Want) → nat_lt max_parts (length parts) ≡ true → ws ≡ [] → AreNeeds (req.Multi parts) who v ws
many_needs parts who v ws many is = no-needs (req.Multi parts) who v _ ws is (many_test parts many)

-- ---- each key once

among : (k : Bytes) (ks : List Bytes) → list_any (λ (q : Bytes). same q k) ks ≡ true → In k ks
among k [] e = absurd (cc)
among k (q ∷ qs) e = at (among k qs) (same q k) refl e
  where
    at : (list_any (λ (r : Bytes). same r k) qs ≡ true → In k qs) → (b : Bool) → same q k ≡ b → (b || list_any (λ (r : Bytes). same r k) qs) ≡ true → In k (q ∷ qs)
    at later true is any = inl (same-true q k is)
    at later false is any = inr (later any)

new_keeps : (ks : List Bytes) (k q : Bytes) → In q ks → In q (with_new ks k)
new_keeps ks k q i = at (list_any (λ (r : Bytes). same r k) ks)
  where
    at : (b : Bool) → In q (if b then ks else ks ++ k ∷ [])
    at true = i
    at false = in_left q ks (k ∷ []) i

new_has : (ks : List Bytes) (k : Bytes) → In k (with_new ks k)
new_has ks k = at (list_any (λ (r : Bytes). same r k) ks) refl
  where
    at : (b : Bool) → list_any (λ (r : Bytes). same r k) ks ≡ b → In k (if b then ks else ks ++ k ∷ [])
    at true e = among k ks e
    at false e = in_right k ks (k ∷ []) (inl refl)

new_only : (ks : List Bytes) (k q : Bytes) → In q (with_new ks k) → In q ks ⊎ (k ≡ q)
new_only ks k q = at (list_any (λ (r : Bytes). same r k) ks)
  where
    at : (b : Bool) → In q (if b then ks else ks ++ k ∷ []) → In q ks ⊎ (k ≡ q)
    at true i = inl i
    at false i = ⊎_elim (λ a. inl a) (λ b. ⊎_elim (λ e. inr e) (λ bad. absurd bad) b) (in_either q ks (k ∷ []) i)

new_few : (ks : List Bytes) (k : Bytes) → length (with_new ks k) ≤ length ks + 1
new_few ks k = at (list_any (λ (r : Bytes). same r k) ks)
  where
    at : (b : Bool) → length (if b then ks else ks ++ k ∷ []) ≤ length ks + 1
    at true = omega arith
    at false = omega (arith, length-append ks (k ∷ []))

each_kept : (ks before : List Bytes) (q : Bytes) → In q before → In q (fold with_new before ks)
each_kept [] before q i = i
each_kept (k ∷ ks) before q i = each_kept ks (with_new before k) q (new_keeps before k q i)

each_has : (ks before : List Bytes) (q : Bytes) → In q ks → In q (fold with_new before ks)
each_has [] before q bad = absurd bad
each_has (k ∷ ks) before q (inl e) = each_kept ks (with_new before k) q (subst (λ (r : Bytes). In r (with_new before k)) e (new_has before k))
each_has (k ∷ ks) before q (inr i) = each_has ks (with_new before k) q i

each_only : (ks before : List Bytes) (q : Bytes) → In q (fold with_new before ks) → In q before ⊎ In q ks
each_only [] before q i = inl i
each_only (k ∷ ks) before q i = ⊎_elim
    (λ a. ⊎_elim (λ x. inl x) (λ e. inr (inl e)) (new_only before k q a))
    (λ b. inr (inr b))
    (each_only ks (with_new before k) q i)

each_few : (ks before : List Bytes) → length (fold with_new before ks) ≤ length before + length ks
each_few [] before = omega arith
each_few (k ∷ ks) before = let rest = each_few ks (with_new before k) in let one = new_few before k in omega (arith, rest, one)

pub once_has : (ks : List Bytes) (q : Bytes) → In q ks → In q (each_new ks)
once_has ks q i = each_has ks [] q i

pub once_only : (ks : List Bytes) (q : Bytes) → In q (each_new ks) → In q ks
once_only ks q i = ⊎_elim (λ bad. absurd bad) (λ h. h) (each_only ks [] q i)

pub once_few : (ks : List Bytes) → length (each_new ks) ≤ length ks
once_few ks = let h = each_few ks [] in omega (arith, h)
