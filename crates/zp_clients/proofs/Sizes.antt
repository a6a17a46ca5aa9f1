-- The requests of the clients can be sent.
use Rattle.std.proofs.Common.{◌≡◌, ℕ, ◌<◌, ◌^◌, length, refl, sym, subst, arith}
use Rattle.std.specs.Prelude.{pos}
use Rattle.zk_jute.specs.JuteWriting.{int_bytes}
use Rattle.zk_jute.specs.Sending.{RequestCanBeSent, request_bytes}
use Rattle.zk_model.specs.declared.request.Request.{Request}
use Rattle.zp_clients.specs.declared.wish.Wish.{Wish}
use Rattle.zp_clients.specs.declared.wish.Wish.TheVariants as wish
use Rattle.zp_clients.specs.Wishes.{request_of}

-- a frame of few bytes
few : (r : Request) (n : ℕ) → length (request_bytes (pos 0) r) ≡ n → n < 100 → RequestCanBeSent r
few r n is small = subst (λ (m : ℕ). m < 2 ^ 31) (sym is) (omega (arith, small))

pub sendable : (k : Wish) (p : ℕ) → RequestCanBeSent (request_of k p)
unfolding int_bytes
sendable wish.Create p = few (request_of wish.Create p) 52 refl (omega arith)
sendable wish.CreateSequence p = few (request_of wish.CreateSequence p) 53 refl (omega arith)
sendable wish.Delete p = few (request_of wish.Delete p) 20 refl (omega arith)
sendable wish.SetData p = few (request_of wish.SetData p) 25 refl (omega arith)
sendable wish.GetData p = few (request_of wish.GetData p) 17 refl (omega arith)
sendable wish.Exists p = few (request_of wish.Exists p) 17 refl (omega arith)
sendable wish.GetChildren p = few (request_of wish.GetChildren p) 14 refl (omega arith)
sendable wish.Ping p = few (request_of wish.Ping p) 8 refl (omega arith)
sendable wish.SetFirst p = few (request_of wish.SetFirst p) 25 refl (omega arith)
