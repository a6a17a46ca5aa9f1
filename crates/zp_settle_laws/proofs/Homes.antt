-- Where a session lives and is attached to this connection, the record of its life shows that at each revision since then.
use Rattle.std.proofs.Common.{◌≡◌, ℕ, ◌≤◌, List, length, take, refl, sym, ap, ◌∙◌, arith, true, pos, inl, inr}
use Rattle.std.specs.Prelude.{Option, Some, None, ◌≤ℤ◌, if◌then◌else◌}
use Rattle.std.specs.FinMap.{empty}
use Rattle.std.proofs.Math.Seq.{take-length}
use Rattle.std.proofs.lemmas.Int.{ints}
use Rattle.std.proofs.lemmas.List.{length-take-le}
use Rattle.ev_types.proofs.Bounds.{present-within}
use Rattle.ev_types.specs.Store.{Store, keys_from, mod_of, present, store_at}
use Rattle.ev_types.specs.declared.answer.Kv.{Kv}
use Rattle.zk_transcript.proofs.Attachments.{own_line-past}
use Rattle.zk_service.specs.States.{Session, session_at}
use Rattle.zk_transcript.specs.History.{after, state_at}
use Rattle.zk_transcript.specs.Legal.{is_legal}
use Rattle.zk_transcript.specs.Walks.{Walker}
use Rattle.zk_transcript.specs.declared.transcript.TranscriptLine.{TranscriptLine}
use Rattle.zn_layout.specs.Keys.{HeadKey, key_bytes}
use Rattle.zn_layout.specs.StandsFor.{HeadMeans, StandsFor, at}
use Rattle.zn_view.proofs.Tested.{session-lives}
use Rattle.zn_view.specs.Laws.{LivesAs}
use Rattle.zn_view.specs.Views.{live}
use Rattle.zn_view.specs.declared.plan.Who.{Who}
use Rattle.zs_session.specs.Sessions.{life_key}
use Rattle.zx_base.proofs.Options.{none_some, some_is}
use Rattle.zp_laws.proofs.Deciding.{attached-then}
use Rattle.ev_types.proofs.Revisions.{since as since-at}
use Rattle.zp_laws.specs.Standing.{IsMoment, Matches}
use Rattle.zp_step.specs.Stages.{Core}
use Rattle.zp_world_laws.proofs.Commits.{stands-now}
use Rattle.zp_world_laws.specs.Serving.{StoreServes}
use Rattle.zp_settle_laws.specs.Staying.{IsAttachedHere}

-- ---- by the record of its life

-- the record was put by the connection's attachment
abbrev pub HasLife : Store → Who → ℕ → Type 0
HasLife s who n = mod_of (at (store_at s n) (life_key who.session)) ≡ who.mine

pub home-life : (s : Store) (lines : List TranscriptLine) (who : Who) → StoreServes s lines → pos 1 ≤ℤ who.session → IsAttachedHere lines who → HasLife s who (length s.revisions)
home-life s lines who serves least h = go (at (present s) (life_key who.session)) refl (session-lives (present s) (after lines) who.session least (stands-now s lines serves))
  where
    lives : live (session_at who.session (after lines)) ≡ Some h.session
    lives = ap live h.there ∙ ap (λ b. if b then None else Some h.session) h.alive

    go : (o : Option Kv) → at (present s) (life_key who.session) ≡ o → LivesAs o (live (session_at who.session (after lines))) → mod_of (at (present s) (life_key who.session)) ≡ who.mine
    go None e none = absurd (none_some (sym none ∙ lives))
    go (Some kv) e (x, is, attached) = ap mod_of e ∙ sym attached ∙ ap (λ (y : Session). y.attached) (some_is (sym is ∙ lives)) ∙ h.mine

-- the record now was put by the attachment; so was the record at each revision from it on
pub life-since : (s : Store) (who : Who) (n : ℕ) → pos 1 ≤ℤ who.mine → HasLife s who (length s.revisions) → n ≤ length s.revisions → who.mine ≤ℤ pos n → HasLife s who n
life-since s who n rises h le since = go (at (store_at s (length s.revisions)) (life_key who.session)) refl
  where
    go : (o : Option Kv) → at (store_at s (length s.revisions)) (life_key who.session) ≡ o → HasLife s who n
    go None e = absurd (let zero_is : pos 0 ≡ who.mine = sym (ap mod_of e) ∙ h in omega (arith, ints, rises, zero_is))
    go (Some kv) e = elim (since-at s n (length s.revisions) (key_bytes (life_key who.session)) kv le e) [
      | inl p ↦ absurd (let put : who.mine ≡ pos p.0 = sym h ∙ ap mod_of e ∙ p.2 in omega (arith, ints, put, since, p.1, length-take-le n s.revisions le))
      | inr f ↦ ap mod_of f ∙ sym (ap mod_of e) ∙ h
    ]

-- ---- a moment after the attachment

-- what the store had at a revision was put by then
put-by : (s : Store) (n : ℕ) (kv : Kv) → n ≤ length s.revisions → at (store_at s n) HeadKey ≡ Some kv → kv.mod_revision ≤ℤ pos n
unfolding store_at
put-by s n kv le e =
    let t : Store = record s { revisions = take n s.revisions } in
    let there : at (present t) HeadKey ≡ Some kv = ap (λ css. at (keys_from 1 empty css) HeadKey) (take-length (take n s.revisions)) ∙ e in
    let most = present-within t (key_bytes HeadKey) kv there in
    omega (arith, ints, most, length-take-le n s.revisions le)

-- the store stood then for a state after the attachment
pub moment-since : (s : Store) (lines : List TranscriptLine) (c : ℕ) (core : Core) (w : Walker) (looked n : ℕ) → is_legal lines ≡ true → pos 1 ≤ℤ core.who.session → Matches lines core w → IsMoment lines c core.who w looked → n ≤ length s.revisions → StandsFor (store_at s n) (state_at lines looked)
    → core.who.mine ≤ℤ pos n
moment-since s lines c core w looked n legal least m t le stands =
    let a = attached-then lines c core w looked legal least m t in
    let past = own_line-past (take looked lines) c a.place core.who.mine core.who.session a.legal a.own in
    go (at (store_at s n) HeadKey) refl stands.head past
  where
    go : (o : Option Kv) → at (store_at s n) HeadKey ≡ o → HeadMeans o (state_at lines looked) → core.who.mine ≤ℤ (state_at lines looked).zxid → core.who.mine ≤ℤ pos n
    go None e none past = absurd none
    go (Some kv) e is past = omega (arith, ints, past, is.zxid, put-by s n kv le e)
