-- What a function that tells the counts that a view saw of a parent says of it, and the operation that follows.
use Rattle.std.proofs.Common.{◌≡◌, ℕ, ◌+◌, ◌<◌, length, drop, get_or, List, [], ◌∷◌, ◌++◌, Option, Some, None, refl, sym, ap, ◌∙◌, subst, append_assoc}
use Rattle.std.proofs.lemmas.List.{drop_more}
use Rattle.std.specs.List.{count_by}
use Rattle.ev_types.specs.declared.answer.Kv.{Kv}
use Rattle.ev_types.specs.declared.ask.Act.{Act}
use Rattle.zk_model.specs.Paths.{is_child}
use Rattle.zx_base.specs.Maps.{Bytes}
use Rattle.zn_layout.specs.declared.record.CountRec.{CountRec}
use Rattle.zn_layout.specs.Changes.{act_of, acts_of, put_key}
use Rattle.zn_layout.specs.Keys.{CountsKey}
use Rattle.zn_layout.specs.Records.{counts_value}
use Rattle.zn_layout.proofs.Nodes.{counts_value-injective}
use Rattle.zn_layout.specs.Counts.{fewer}
use Rattle.zn_view.specs.Lookups.{sees, IsCountsIn}
use Rattle.zn_view.specs.Seen.{View}
use Rattle.zs_close.specs.Closing.{IsTold, TellsCounts, TellsCountsOf}
use Rattle.zs_close.specs.Ending.{put_parent, put_parents}

told_none : (o : Option Kv) (c : Option CountRec) → o ≡ None → IsTold o c → c ≡ None
told_none None None e h = refl
told_none None (Some c) e h = absurd h
told_none (Some kv) c e h = absurd (cc)

told_some : (c : Option CountRec) (kv : Kv) (r : CountRec) → IsCountsIn kv r → IsTold (Some kv) c → c ≡ Some r
told_some None kv r is h = absurd h
told_some (Some c) kv r is h = ap Some (counts_value-injective c r h.0 is.0 (sym h.1 ∙ is.1))

module _ (v : View) (counts : Bytes → Option CountRec) (q : Bytes) (tells : TellsCountsOf v counts q) (acts : List Act) (ps rest : List Bytes) where
  -- a parent that isn't there has no counts
  pub parent-absent : sees v (CountsKey q) ≡ Some None → acts ++ acts_of (put_parents counts ps rest) ≡ acts ++ acts_of (put_parents counts ps (q ∷ rest))
  parent-absent saw =
      let none : counts q ≡ None = told_none None (counts q) refl (tells None saw) in
      sym (ap (λ (o : Option CountRec). acts ++ acts_of (put_parent ps q o ++ put_parents counts ps rest)) none)

  -- a parent that is there counts fewer children
  pub parent-there : (kv : Kv) (r : CountRec) (new : List Act) → sees v (CountsKey q) ≡ Some (Some kv) → IsCountsIn kv r
      → new ≡ acts ++ act_of (put_key (CountsKey q) (counts_value (fewer r (count_by (is_child q) ps)))) ∷ []
      → new ++ acts_of (put_parents counts ps rest) ≡ acts ++ acts_of (put_parents counts ps (q ∷ rest))
  parent-there kv r new saw is e =
      let one : Act = act_of (put_key (CountsKey q) (counts_value (fewer r (count_by (is_child q) ps)))) in
      let there : counts q ≡ Some r = told_some (counts q) kv r is (tells (Some kv) saw) in
      ap (λ (l : List Act). l ++ acts_of (put_parents counts ps rest)) e
      ∙ append_assoc acts (one ∷ []) (acts_of (put_parents counts ps rest))
      ∙ sym (ap (λ (o : Option CountRec). acts ++ acts_of (put_parent ps q o ++ put_parents counts ps rest)) there)

-- what follows for parents from the i-th on, by what follows for that one
pub parents-more : (v : View) (ps qs : List Bytes) (i : ℕ) (q : Bytes) (first now next : List Act) → i < length qs → q ≡ get_or qs i q
    → ((counts : Bytes → Option CountRec) → TellsCounts v counts qs → now ++ acts_of (put_parents counts ps (drop i qs)) ≡ first ++ acts_of (put_parents counts ps qs))
    → ((counts : Bytes → Option CountRec) → TellsCountsOf v counts q → (rest : List Bytes) → next ++ acts_of (put_parents counts ps rest) ≡ now ++ acts_of (put_parents counts ps (q ∷ rest)))
    → (counts : Bytes → Option CountRec) → TellsCounts v counts qs → next ++ acts_of (put_parents counts ps (drop (i + 1) qs)) ≡ first ++ acts_of (put_parents counts ps qs)
parents-more v ps qs i q first now next lt is kept step counts tells =
    step counts (subst (TellsCountsOf v counts) (sym is) (tells i q lt)) (drop (i + 1) qs)
    ∙ ap (λ (l : List Bytes). now ++ acts_of (put_parents counts ps l)) (ap (λ (x : Bytes). x ∷ drop (i + 1) qs) is ∙ sym (drop_more qs i q lt))
    ∙ kept counts tells
