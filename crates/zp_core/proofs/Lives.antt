-- What is done by the revision of the record of the session's life.
use Rattle.std.proofs.Common.{◌≡◌, ℕ, ℤ, false, List, subst}
use Rattle.std.proofs.lemmas.Bool.Decides.{Decides-int_eq}
use Rattle.std.specs.Prelude.{Option, Some, None, option_map}
use Rattle.std.specs.Ordering.{int_eq}
use Rattle.ev_types.specs.declared.answer.Kv.{Kv}
use Rattle.zk_jute.specs.Requests.{read_request}
use Rattle.zk_service.specs.Answers.{xid_of}
use Rattle.zn_view.specs.Seen.{View}
use Rattle.zx_base.proofs.Options.{none_some, some_is, some_none}
use Rattle.zp_step.specs.declared.action.Action.{Action}
use Rattle.zp_step.specs.Keepalives.{StillMine}
use Rattle.zp_step.specs.Looking.{expired, moved}
use Rattle.zp_step.specs.Replies.{Is, waits}
use Rattle.zp_step.specs.Stages.{Core}
use Rattle.zp_core.specs.Handling.{ByPut}
use Rattle.zx_base.proofs.Booleans.{false-unless_true}

abbrev pub put_at : Option Kv → Option ℤ
put_at o = option_map (λ (kv : Kv). kv.mod_revision) o

module _ (c : Core) (bytes : List ℕ) (v : View) (now : ℕ) (c' : Core) (out : List Action) where
  pub still-none : (o : Option Kv) → None ≡ put_at o → Is (waits c (expired v (xid_of (read_request bytes)))) c' out → StillMine c bytes v now c' out o
  still-none None e h = h
  still-none (Some kv) e h = absurd (none_some e)

  pub still-some : (o : Option Kv) (found : ℤ) → Some found ≡ put_at o → ByPut c bytes v now c' out found → StillMine c bytes v now c' out o
  still-some None found e h = absurd (some_none e)
  still-some (Some kv) found e h = subst (ByPut c bytes v now c' out) (some_is e) h

  -- another attachment put it
  pub by-other : (found : ℤ) → (found ≡ c.who.mine → ⊥) → Is (waits c (moved c.who v found (xid_of (read_request bytes)))) c' out → ByPut c bytes v now c' out found
  by-other found other h =
      let test : int_eq found c.who.mine ≡ false = false-unless_true (int_eq found c.who.mine) (λ e. other ((Decides-int_eq found c.who.mine).0 e)) in
      rw test h
