-- What may still be carried out is carried out: an update of the service, or nothing.
use Rattle.std.proofs.Common.{◌≡◌, ℕ, List, [], refl, sym, ap, ◌∙◌, subst, arith, Bool, true, false, inl, inr}
use Rattle.std.specs.Prelude.{Option, Some, None, ◌⊎◌, ◌≤ℤ◌, ◌<ℤ◌}
use Rattle.std.proofs.lemmas.Int.{ints}
use Rattle.ev_types.specs.Denials.{carry}
use Rattle.ev_types.specs.Store.{Store, chosen, grown, last_revision, mod_of, revision, succeeds, worked}
use Rattle.ev_types.specs.declared.answer.Answer.{Answer}
use Rattle.ev_types.specs.declared.ask.Ask.{Ask}
use Rattle.ev_types.specs.declared.ask.Ask.TheVariants as ask
use Rattle.ev_types.specs.declared.ask.TxnReq.{TxnReq}
use Rattle.zk_transcript.specs.declared.transcript.TranscriptLine.{TranscriptLine}
use Rattle.zk_service.specs.declared.update.UpdateKind.{UpdateKind}
use Rattle.zk_service.specs.declared.update.UpdateKind.TheVariants.{Begin, Session as NewSession, Attach, Asked, Closed, Reaped}
use Rattle.zn_layout.specs.Keys.{HeadKey}
use Rattle.zn_layout.specs.StandsFor.{at}
use Rattle.zp_laws.specs.Inputs.{Precedes}
use Rattle.zp_laws.specs.Standing.{is_ahead}
use Rattle.zp_script.specs.declared.flight.Asking.{Asking}
use Rattle.zp_world_laws.proofs.Commits.{Committed, commit-done, no-line}
use Rattle.zp_world_laws.proofs.Connects.{attach-commits, new-commits, reap-commits}
use Rattle.zp_world_laws.proofs.Growing.{grown-precedes, present-same}
use Rattle.zp_world_laws.proofs.Plans.{request-commits}
use Rattle.zp_world_laws.proofs.Transactions.{other-carried, txn-carried, txn-reads}
use Rattle.zp_world_laws.specs.Bounds.{IsBound, IsBoundAs, IsBoundAsk, IsReading}
use Rattle.zp_world_laws.specs.Holding.{requested_by}
use Rattle.zp_world_laws.specs.Serving.{Commits, GuardsHold, StoreServes, next_revision, only_reads, update_lines}

-- the store has the revisions that it had
pub record Still (s u : Store) (kind : Option UpdateKind) : Type 0 where
  pub revisions : u.revisions ≡ s.revisions
  pub lines : update_lines s u kind ≡ []

pub still : (s u : Store) (kind : Option UpdateKind) → u.revisions ≡ s.revisions → Still s u kind
still s u kind e = record { revisions = e; lines = no-line s u kind (ap (λ m. mod_of (at m HeadKey)) (present-same s u e)) }

-- an update was made, and has its line
pub record Updated (s u : Store) (lines : List TranscriptLine) (o : Option UpdateKind) : Type 0 where
  pub kind : UpdateKind
  pub is : o ≡ Some kind
  pub done : Committed s u lines kind
  pub precedes : Precedes s u
  pub txn : TxnReq
  pub bound : IsBound s lines kind txn

-- if the update carries out a request, neither that request nor a later one has a line yet
abbrev pub IsNext : List TranscriptLine → UpdateKind → Type 0
IsNext lines kind = (c i : ℕ) → requested_by kind ≡ Some (record { connection = c; index = i }) → is_ahead lines c i ≡ true

bound-commits : (s : Store) (lines : List TranscriptLine) (kind : UpdateKind) (t : TxnReq) → StoreServes s lines → next_revision s ≤ℤ last_revision → IsNext lines kind → IsBound s lines kind t → GuardsHold s t → Commits s lines kind t
bound-commits s lines (Begin n) t w room next b h = absurd b
bound-commits s lines (NewSession id c) t w room next b h = new-commits s lines c id t w room b h
bound-commits s lines (Attach id c) t w room next b h = attach-commits s lines c id t w room b h
bound-commits s lines (Asked c i now) t w room next b h = request-commits s lines c i t (Asked c i now) w room (next c i refl) b h
bound-commits s lines (Closed sid c i) t w room next b h = request-commits s lines c i t (Closed sid c i) w room (next c i refl) b h
bound-commits s lines (Reaped id) t w room next b h = reap-commits s lines id t w room b h

pub next-room : (s : Store) → revision s <ℤ last_revision → next_revision s ≤ℤ last_revision
next-room s h = omega (arith, ints, h)

-- a transaction whose guards hold: either it changed nothing, or there was room and it commits
update-outcome : (s u : Store) (lines : List TranscriptLine) (kind : UpdateKind) (t : TxnReq) (a : Answer) → StoreServes s lines → IsNext lines kind → IsBound s lines kind t → only_reads t.failure ≡ true → carry s (ask.Txn t) ≡ Some (u, a)
    → Still s u (Some kind) ⊎ Updated s u lines (Some kind)
update-outcome s u lines kind t a w next b reads h = go (succeeds s t) refl
  where
    go : (p : Bool) → succeeds s t ≡ p → Still s u (Some kind) ⊎ Updated s u lines (Some kind)
    go false e = inl (still s u (Some kind) (ap (λ (v : Store). v.revisions) (txn-reads s u t a false h e reads)))
    go true e = elim ((txn-carried s u t a h).room) [
      | inl same ↦ inl (still s u (Some kind) (ap (λ (v : Store). v.revisions) same))
      | inr room ↦
          let is : u ≡ grown s (worked s t.success).changes = (txn-carried s u t a h).store ∙ ap (λ q. grown s (worked s (chosen q t)).changes) e in
          inr (record {
            kind = kind;
            is = refl;
            done = commit-done s u lines kind t w (bound-commits s lines kind t w (next-room s room) next b e) is room;
            precedes = subst (λ (v : Store). Precedes s v) (sym is) (grown-precedes s (worked s t.success).changes);
            txn = t;
            bound = b;
          })
    ]

-- where there is room and the guards hold it commits
pub plan-commits : (s u : Store) (lines : List TranscriptLine) (kind : UpdateKind) (t : TxnReq) (a : Answer) → StoreServes s lines → revision s <ℤ last_revision → IsNext lines kind → IsBound s lines kind t → succeeds s t ≡ true → carry s (ask.Txn t) ≡ Some (u, a)
    → Committed s u lines kind × Precedes s u
plan-commits s u lines kind t a w room next b e h =
    let is : u ≡ grown s (worked s t.success).changes = (txn-carried s u t a h).store ∙ ap (λ q. grown s (worked s (chosen q t)).changes) e in
    (commit-done s u lines kind t w (bound-commits s lines kind t w (next-room s room) next b e) is room, subst (λ (v : Store). Precedes s v) (sym is) (grown-precedes s (worked s t.success).changes))

reading-outcome : (s u : Store) (t : TxnReq) (a : Answer) → IsReading t → carry s (ask.Txn t) ≡ Some (u, a) → Still s u None
reading-outcome s u t a r h = still s u None (ap (λ (v : Store). v.revisions) (go (succeeds s t) refl))
  where
    go : (p : Bool) → succeeds s t ≡ p → u ≡ s
    go true e = txn-reads s u t a true h e r.success
    go false e = txn-reads s u t a false h e r.failure

outcome-as : (s u : Store) (lines : List TranscriptLine) (o : Option UpdateKind) (q : Ask) (a : Answer) → StoreServes s lines → ((kind : UpdateKind) → o ≡ Some kind → IsNext lines kind) → IsBoundAs s lines o q → carry s q ≡ Some (u, a)
    → Still s u o ⊎ Updated s u lines o
outcome-as s u lines (Some kind) (ask.Txn t) a w next b h = update-outcome s u lines kind t a w (next kind refl) b.0 b.1 h
outcome-as s u lines (Some kind) (ask.Range r) a w next b h = absurd b
outcome-as s u lines (Some kind) (ask.Grant id ttl) a w next b h = absurd b
outcome-as s u lines (Some kind) (ask.Alive id) a w next b h = absurd b
outcome-as s u lines None (ask.Txn t) a w next b h = inl (reading-outcome s u t a b h)
outcome-as s u lines None (ask.Range r) a w next b h = inl (still s u None (other-carried s u (ask.Range r) a tt h))
outcome-as s u lines None (ask.Grant id ttl) a w next b h = inl (still s u None (other-carried s u (ask.Grant id ttl) a tt h))
outcome-as s u lines None (ask.Alive id) a w next b h = inl (still s u None (other-carried s u (ask.Alive id) a tt h))

pub outcome : (s u : Store) (lines : List TranscriptLine) (x : Asking) (a : Answer) → StoreServes s lines → ((kind : UpdateKind) → x.kind ≡ Some kind → IsNext lines kind) → IsBoundAsk s lines x → carry s x.ask ≡ Some (u, a)
    → Still s u x.kind ⊎ Updated s u lines x.kind
outcome s u lines x a w next b h = outcome-as s u lines x.kind x.ask a w next b h
