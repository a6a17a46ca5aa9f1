-- Operations that write keys without a lease, after others.
use Rattle.std.proofs.Common.{◌≡◌, ℤ, Bool, List, [], ◌∷◌, ◌++◌, refl, sym, ap, ◌∙◌, append_assoc, append-nil}
use Rattle.std.proofs.lemmas.List.{map-append}
use Rattle.std.proofs.lemmas.List.Elements.{All-nil, All-cons, All-append}
use Rattle.ev_types.specs.declared.ask.Act.{Act}
use Rattle.zk_model.specs.declared.layout.Layout.{Layout}
use Rattle.zx_base.specs.Maps.{Bytes}
use Rattle.zn_layout.specs.Changes.{act_of, acts_of, put_key}
use Rattle.zn_layout.specs.Keys.{Key}
use Rattle.zn_view.specs.Asks.{IsLeaseless}
use Rattle.zs_close.specs.Closing.{AreWritesAfter}
use Rattle.zs_close.specs.Ending.{delete_nodes, delete_session}
use Rattle.zs_close.proofs.Distinct.{nodes-leaseless, session-leaseless}

pub nothing-after : (acts : List Act) → AreWritesAfter acts acts
nothing-after acts = ([], All-nil IsLeaseless, sym (append-nil acts))

pub put-after : (old new : List Act) (k : Key) (value : Bytes) → new ≡ old ++ act_of (put_key k value) ∷ [] → AreWritesAfter old new
put-after old new k value is = (put_key k value ∷ [], All-cons IsLeaseless (put_key k value) [] refl (All-nil IsLeaseless), is)

pub after-both : (a b c : List Act) → AreWritesAfter a b → AreWritesAfter b c → AreWritesAfter a c
after-both a b c (cs, all, is) (ds, also, are) = (
  cs ++ ds,
  All-append IsLeaseless cs ds all also,
  are ∙ ap (λ (l : List Act). l ++ acts_of ds) is ∙ append_assoc a (acts_of cs) (acts_of ds) ∙ ap (λ (l : List Act). a ++ l) (sym (map-append act_of cs ds)),
)

-- the operations of an end
pub end-after : (alive : Bool) (id : ℤ) (layout : Layout) (ps : List Bytes) (own nodes acts : List Act) → own ≡ acts_of (delete_session alive id) → nodes ≡ own ++ acts_of (delete_nodes layout ps) → AreWritesAfter nodes acts → AreWritesAfter [] acts
end-after alive id layout ps own nodes acts e f h =
    after-both [] nodes acts (after-both [] own nodes (delete_session alive id, session-leaseless alive id, e) (delete_nodes layout ps, nodes-leaseless layout ps, f)) h
