-- Of the requests that read, setWatches alone has no path of its own.
use Rattle.std.proofs.Common.{◌≡◌, ℤ, Bool, true, Some, None, refl, sym, subst, List}
use Rattle.zx_base.specs.Maps.{Bytes}
use Rattle.zk_model.specs.declared.reply.Body.TheVariants as body
use Rattle.zk_model.specs.declared.reply.Reply.TheVariants as reply
use Rattle.zk_model.specs.declared.request.Request.{Request}
use Rattle.zk_model.specs.declared.request.Request.TheVariants as req
use Rattle.zk_model.specs.Watches.{no_watches}
use Rattle.zk_service.specs.Answers.{Told, plain_request}
use Rattle.zn_view.specs.declared.plan.Decision.{Decision}
use Rattle.zn_view.specs.declared.plan.Decision.TheVariants.{Answered}
use Rattle.zn_view.specs.Seen.{View}
use Rattle.zn_reads.specs.Deciding.{is_read, IsReadDecision}
use Rattle.zn_reads.proofs.Answering.{set_watches-decided}

-- the form of a setWatches is never refused
set_watches_plain : (since : ℤ) (exists datas children : List Bytes) (t : Told) → plain_request no_watches (req.SetWatches since exists datas children) ≡ Some t → ⊥
unfolding plain_request
set_watches_plain since exists datas children t h = cc

set_watches_read : (since : ℤ) (exists datas children : List Bytes) (v : View) → IsReadDecision (req.SetWatches since exists datas children) v (Answered (reply.Good body.Empty) None)
set_watches_read since exists datas children v = record {
  by_form = λ t h. absurd (set_watches_plain since exists datas children t h);
  decided = λ who whole s sound valid of none limit session. set_watches-decided s.tree limit session since exists datas children;
  answered = tt;
}

-- a request that is none of the other reads
pub record IsNoOther (r : Request) : Type 0 where
  pub exists : (p : Bytes) (w : Bool) → r ≡ req.Exists p w → ⊥
  pub get_data : (p : Bytes) (w : Bool) → r ≡ req.GetData p w → ⊥
  pub get_acl : (p : Bytes) → r ≡ req.GetAcl p → ⊥
  pub get_children : (p : Bytes) (w : Bool) → r ≡ req.GetChildren p w → ⊥
  pub get_children2 : (p : Bytes) (w : Bool) → r ≡ req.GetChildren2 p w → ⊥
  pub check : (p : Bytes) (version : ℤ) → r ≡ req.Check p version → ⊥
  pub sync : (p : Bytes) → r ≡ req.Sync p → ⊥

pub remaining-read : (r : Request) (v : View) (d : Decision) → is_read r ≡ true → IsNoOther r → d ≡ Answered (reply.Good body.Empty) None → IsReadDecision r v d
remaining-read (req.Create p content acl flags) v d h other is = cc
remaining-read (req.Delete p version) v d h other is = cc
remaining-read (req.Exists p watch) v d h other is = absurd (other.exists p watch refl)
remaining-read (req.GetData p watch) v d h other is = absurd (other.get_data p watch refl)
remaining-read (req.SetData p content version) v d h other is = cc
remaining-read (req.GetAcl p) v d h other is = absurd (other.get_acl p refl)
remaining-read (req.GetChildren p watch) v d h other is = absurd (other.get_children p watch refl)
remaining-read (req.GetChildren2 p watch) v d h other is = absurd (other.get_children2 p watch refl)
remaining-read (req.Sync p) v d h other is = absurd (other.sync p refl)
remaining-read req.Ping v d h other is = cc
remaining-read (req.Check p version) v d h other is = absurd (other.check p version refl)
remaining-read (req.Multi parts) v d h other is = cc
remaining-read (req.Auth kind scheme auth) v d h other is = cc
remaining-read (req.SetWatches since exists datas children) v d h other is = subst (λ (x : Decision). IsReadDecision (req.SetWatches since exists datas children) v x) (sym is) (set_watches_read since exists datas children v)
remaining-read req.Close v d h other is = cc
remaining-read (req.Create2 p content acl flags) v d h other is = cc
remaining-read (req.CheckWatches p kind) v d h other is = cc
remaining-read (req.RemoveWatches p kind) v d h other is = cc

pub remaining-none : (r : Request) → is_read r ≡ true → IsNoOther r → ((since : ℤ) (exists datas children : List Bytes) → r ≡ req.SetWatches since exists datas children → ⊥) → ⊥
remaining-none (req.Create p content acl flags) h other set = cc
remaining-none (req.Delete p version) h other set = cc
remaining-none (req.Exists p watch) h other set = other.exists p watch refl
remaining-none (req.GetData p watch) h other set = other.get_data p watch refl
remaining-none (req.SetData p content version) h other set = cc
remaining-none (req.GetAcl p) h other set = other.get_acl p refl
remaining-none (req.GetChildren p watch) h other set = other.get_children p watch refl
remaining-none (req.GetChildren2 p watch) h other set = other.get_children2 p watch refl
remaining-none (req.Sync p) h other set = other.sync p refl
remaining-none req.Ping h other set = cc
remaining-none (req.Check p version) h other set = other.check p version refl
remaining-none (req.Multi parts) h other set = cc
remaining-none (req.Auth kind scheme auth) h other set = cc
remaining-none (req.SetWatches since exists datas children) h other set = set since exists datas children refl
remaining-none req.Close h other set = cc
remaining-none (req.Create2 p content acl flags) h other set = cc
remaining-none (req.CheckWatches p kind) h other set = cc
remaining-none (req.RemoveWatches p kind) h other set = cc
