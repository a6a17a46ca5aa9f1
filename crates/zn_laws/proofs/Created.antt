-- A create2 shows the node that it made: it is there, with the fields that a new node has, and nothing is below it.
use Rattle.std.proofs.Common.{◌≡◌, ℕ, ℤ, pos, Bool, true, false, not, List, [], ◌∷◌, ◌++◌, Option, Some, None, refl, sym, ap, ◌∙◌, subst}
use Rattle.std.specs.Prelude.{⊤, nat_abs, if◌then◌else◌}
use Rattle.std.specs.FinMap.{get}
use Rattle.std.specs.Ordering.{int_eq}
use Rattle.zx_base.specs.Maps.{Bytes}
use Rattle.zx_base.proofs.Options.{none_some, some_is}
use Rattle.zk_model.specs.declared.node.Node.{Node}
use Rattle.zk_model.specs.declared.node.Stat.{Stat}
use Rattle.zk_model.specs.declared.node.Trigger.TheVariants as trigger
use Rattle.zk_model.specs.declared.reply.PartResult.TheVariants as result
use Rattle.zk_model.specs.declared.request.Acl.{Acl}
use Rattle.zk_model.specs.declared.request.Part.TheVariants as part
use Rattle.zk_model.specs.declared.request.Request.TheVariants as req
use Rattle.zk_model.specs.Paths.{parent, sequence_path}
use Rattle.zk_model.specs.Single.{Outcome, Done, Refused, create, create_at, create_node, create_under, effect, form_refusal, is_ephemeral, is_full, is_sequential, made_path, named, single, unless_refused, with_child}
use Rattle.zk_model.specs.Znodes.{new_node, num_children, stat}
use Rattle.zk_model.proofs.Paths.{apart_from_parent}
use Rattle.zk_model.proofs.SequenceParents.{parent-sequence}
use Rattle.zk_service.specs.States.{Commit, IsSound, State, body_with_stat, commit, commit_with_stat, made_stat, response_of}
use Rattle.zk_service.proofs.Children.{create_count_other, create_new, create_tree, no_orphans}
use Rattle.zn_laws.specs.Created.{ShowsItsNode}

-- what a create2 with this Stat shows of an outcome
abbrev ShowsOf : Stat → Outcome → Type 0
ShowsOf x (Refused code) = ⊤
ShowsOf x (Done r t g) = ShowsItsNode t (body_with_stat x (response_of r))

of_commit : (x : Stat) (o : Outcome) (c : Commit) → ShowsOf x o → commit_with_stat x o ≡ Some c → ShowsItsNode c.tree c.response
of_commit x (Refused code) c shows e = absurd (none_some e)
of_commit x (Done r t g) c shows e = subst (λ (y : Commit). ShowsItsNode y.tree y.response) (some_is e) shows

unless : (x : Stat) (b : Bool) (code : ℤ) (o : Outcome) → ShowsOf x o → ShowsOf x (if b then Refused code else o)
unless x true code o shows = tt
unless x false code o shows = shows

unrefused : (x : Stat) (refusal : Option ℤ) (o : Outcome) → ShowsOf x o → ShowsOf x (unless_refused refusal o)
unrefused x (Some code) o shows = tt
unrefused x None o shows = shows

module _ (s : State) (limit : ℕ) (session flags : ℤ) (content : Bytes) (z : ℤ) (now : ℕ) (path : Bytes) (sound : IsSound s) where
  abbrev fresh : Node
  fresh = new_node content (if is_ephemeral flags then session else pos 0) z now

  abbrev shown : Stat
  shown = made_stat flags content session z now

  module _ (q : Bytes) (up : Node) (below : parent (named flags path) ≡ Some q) (there : get s.tree q ≡ Some up) (none : get s.tree (made_path flags path up) ≡ None) where
    abbrev p : Bytes
    p = made_path flags path up

    below_q : parent p ≡ Some q
    below_q = by_mode (is_sequential flags) below
      where
        by_mode : (b : Bool) → parent (if b then path ++ 49 ∷ [] else path) ≡ Some q → parent (if b then sequence_path path (nat_abs up.creates) else path) ≡ Some q
        by_mode true e = parent-sequence path (nat_abs up.creates) ∙ e
        by_mode false e = e

    childless : num_children (create_tree s.tree q (with_child up z) p fresh) p ≡ 0
    childless = create_count_other s.tree p q up (with_child up z) fresh below_q there none p (apart_from_parent p q below_q) ∙ no_orphans s p sound none

    made-shown : ShowsOf shown (Done (result.Created p) (create_tree s.tree q (with_child up z) p fresh) (trigger.Created p ∷ trigger.Children q ∷ []))
    made-shown = (fresh, create_new s.tree p q up (with_child up z) fresh below_q there none, ap (stat fresh) (sym childless))

  made_node : (q : Bytes) (up : Node) (o : Option Node) → parent (named flags path) ≡ Some q → get s.tree q ≡ Some up → get s.tree (made_path flags path up) ≡ o
      → ShowsOf shown (create_node s.tree limit session flags content z now q up (made_path flags path up) o)
  made_node q up (Some old) below there is = tt
  made_node q up None below there is = unless shown (not (int_eq up.owner (pos 0))) _ _ (unless shown (is_full s.tree limit session flags up) _ _ (made-shown q up below there is))

  made_under : (q : Bytes) (o : Option Node) → parent (named flags path) ≡ Some q → get s.tree q ≡ o → ShowsOf shown (create_under s.tree limit session flags content z now path q o)
  made_under q None below is = tt
  made_under q (Some up) below is = made_node q up (get s.tree (made_path flags path up)) below is refl

  made_at : (o : Option Bytes) → parent (named flags path) ≡ o → ShowsOf shown (create_at s.tree limit session flags content z now path o)
  made_at None is = tt
  made_at (Some q) is = made_under q (get s.tree q) is refl

  create-shown : ShowsOf shown (create s.tree limit session flags content z now path)
  create-shown = made_at (parent (named flags path)) refl

pub create2-shown : (s : State) (limit : ℕ) (session : ℤ) (path content : Bytes) (acl : List Acl) (flags z : ℤ) (now : ℕ) (c : Commit)
    → IsSound s → commit s.tree limit session (req.Create2 path content acl flags) z now ≡ Some c → ShowsItsNode c.tree c.response
unfolding commit single effect
create2-shown s limit session path content acl flags z now c sound e =
    let x : Stat = made_stat flags content session z now in
    of_commit x (single s.tree limit session (part.Create path content acl flags) z now) c
    (unrefused x (form_refusal (part.Create path content acl flags)) (create s.tree limit session flags content z now path) (create-shown s limit session flags content z now path sound)) e
