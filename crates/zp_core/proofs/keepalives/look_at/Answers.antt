-- By the revision of the record of the session's life.
use Rattle.std.proofs.Common.{◌≡◌, ℤ, sym, ◌∙◌, rules, subst, ap, w64}
use Rattle.std.specs.Prelude.{IfOk}
use Rattle.std.proofs.lemmas.Int.{to_z-of_z}
use Rattle.std.proofs.lemmas.Result.{IfOk-weaker}
use mir.Val.{SFits}
use Rattle.zk_jute.specs.Requests.{read_request}
use Rattle.zk_service.specs.Answers.{xid_of}
use Rattle.zn_view.specs.Lookups.{found_at}
use Rattle.zs_session.specs.Sessions.{life_key}
use Rattle.zp_step.specs.Keepalives.{Looked}
use Rattle.zp_step.specs.Looking.{expired}
use Rattle.zp_step.specs.Replies.{Is, waits}
use Rattle.zp_core.specs.Meanings.{Leads, core_of, ready, stage_of}
use Rattle.zp_core.specs.Handling.{ByPut}
use Rattle.zp_core.proofs.Lives.{put_at, still-none, still-some}
use Rattle.zp_core.proofs.keepalives.look_at.Goals as goal

pub returns-in-None : goal.returns-in-None
returns-in-None c =
    let core = ready c.args.client.now in
    let session : SFits w64 c.args.client.now.who.session = search rules in
    let life : c.in_ok-life.life ≡ put_at (found_at c.args.view.now (life_key c.args.client.now.who.session)) =
    c.in_ok-life.ensures ∙ ap (λ (id : ℤ). put_at (found_at c.args.view.now (life_key id))) (to_z-of_z w64 _ session) in
    IfOk-weaker c.refuse_expired.result (Leads (Is (waits core (expired c.args.view.now (xid_of (read_request c.args.frame.now))))) c.refuse_expired.new.client)
    (Leads (λ d out. Looked core c.args.frame.now c.args.now d out c.args.view.now) c.refuse_expired.new.client)
    (λ m h. still-none core c.args.frame.now c.args.view.now c.args.now (core_of c.refuse_expired.new.client (stage_of m.stage)) m.actions (found_at c.args.view.now (life_key c.args.client.now.who.session)) (sym c.in-None.is ∙ life) h)
    c.refuse_expired.ensures

pub returns-in-Some : goal.returns-in-Some
returns-in-Some c =
    let core = ready c.args.client.now in
    let session : SFits w64 c.args.client.now.who.session = search rules in
    let found : SFits w64 c.in-Some.found = search rules in
    let life : c.in_ok-life.life ≡ put_at (found_at c.args.view.now (life_key c.args.client.now.who.session)) =
    c.in_ok-life.ensures ∙ ap (λ (id : ℤ). put_at (found_at c.args.view.now (life_key id))) (to_z-of_z w64 _ session) in
    IfOk-weaker c.take_or_refuse.result (Leads (λ d out. ByPut core c.args.frame.now c.args.view.now c.args.now d out c.in-Some.found) c.take_or_refuse.new.client)
    (Leads (λ d out. Looked core c.args.frame.now c.args.now d out c.args.view.now) c.take_or_refuse.new.client)
    (λ m h. still-some core c.args.frame.now c.args.view.now c.args.now (core_of c.take_or_refuse.new.client (stage_of m.stage)) m.actions (found_at c.args.view.now (life_key c.args.client.now.who.session)) c.in-Some.found (sym c.in-Some.is ∙ life) h)
    (subst (λ (f : ℤ). IfOk c.take_or_refuse.result (Leads (λ d out. ByPut core c.args.frame.now c.args.view.now c.args.now d out f) c.take_or_refuse.new.client)) (to_z-of_z w64 _ found) c.take_or_refuse.ensures)
