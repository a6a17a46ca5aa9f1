-- How the packets of a client are told apart.
use Rattle.std.proofs.Common.{◌≡◌, ℕ, ◌<◌, ◌^◌, ◌≤◌, refl, ap, ◌∙◌, arith, Bool, true, false, List, ℤ, pos, negsuc}
use Rattle.std.specs.Prelude.{◌≤ℤ◌, ◌<ℤ◌, ◌==◌, ◌&&◌, not}
use Rattle.std.specs.Int.{from_be_bytes, cast_unsigned, w32}
use Rattle.std.proofs.lemmas.Bool.Decides.{nat_tests}
use Rattle.std.proofs.lemmas.Int.{ints}
use Rattle.std.proofs.lemmas.Nat.{from_be_bytes-to_be_bytes_4}
use Rattle.zk_jute.specs.JuteWriting.{int_bytes, long_bytes}
use Rattle.zk_jute.specs.Packets.{connect_packet, notice_packet, reply_packet}
use Rattle.zk_model.specs.Codes.{minus}
use Rattle.zk_model.specs.declared.connect.ConnectResponse.{ConnectResponse}
use Rattle.zk_model.specs.declared.reply.Body.{Body}
use Rattle.zk_model.specs.declared.reply.Notice.{Notice}
use Rattle.zk_model.specs.declared.reply.Reply.{Reply}
use Rattle.zk_model.specs.declared.reply.Reply.TheVariants as reply
use Rattle.zp_clients.specs.Sent.{int_at, is_notice, is_refusal, is_reply}
use Rattle.zp_clients.specs.Wishes.{next_xid, xid_of}
use Rattle.zp_clients.specs.declared.wish.Wish.{Wish}
use Rattle.zp_clients.specs.declared.wish.Wish.TheVariants as wish

pub notice_told : (n : Notice) → is_notice (notice_packet n) ≡ true
unfolding notice_packet int_bytes long_bytes
notice_told n = refl

pub connect_told : (r : ConnectResponse) → (is_notice (connect_packet r) ≡ false) × (is_reply (connect_packet r) ≡ false)
unfolding connect_packet int_bytes long_bytes
connect_told r = (refl, refl)

-- ---- the header of a reply

xid-at : (xid zxid : ℤ) (r : Reply) → int_at (reply_packet xid zxid r) 4 ≡ from_be_bytes w32 (int_bytes xid)
unfolding reply_packet int_bytes long_bytes
xid-at xid zxid (reply.Refused code) = refl
xid-at xid zxid (reply.Good b) = refl

code-at : (xid zxid code : ℤ) → int_at (reply_packet xid zxid (reply.Refused code)) 16 ≡ from_be_bytes w32 (int_bytes code)
unfolding reply_packet int_bytes long_bytes
code-at xid zxid code = refl

good-at : (xid zxid : ℤ) (b : Body) → int_at (reply_packet xid zxid (reply.Good b)) 16 ≡ 0
unfolding reply_packet int_bytes long_bytes
good-at xid zxid b = refl

back : (n : ℕ) → n < 2 ^ 31 → from_be_bytes w32 (int_bytes (pos n)) ≡ n
unfolding int_bytes
back n small = from_be_bytes-to_be_bytes_4 n (omega (arith, small))

negative-back : (code : ℤ) → minus 200 ≤ℤ code → code <ℤ pos 0 → (from_be_bytes w32 (int_bytes code) == 0) ≡ false
unfolding int_bytes
negative-back (pos n) low high = absurd (omega (arith, ints, high))
negative-back (negsuc n) low high =
    let is = from_be_bytes-to_be_bytes_4 (cast_unsigned w32 (negsuc n)) (omega (arith, ints, low)) in
    grind (arith, nat_tests, ints)

-- ---- replies

told-by : (packet : List ℕ) (n : ℕ) → int_at packet 4 ≡ n → 1 ≤ n → n < 4294967295 → is_reply packet ≡ true
told-by packet n is some few = grind (arith, nat_tests)

next-some : (last : ℕ) → 1 ≤ next_xid last
next-some last = omega arith

next-few : (last : ℕ) → next_xid last < 2 ^ 31
next-few last = omega arith

counted-told : (last : ℕ) (zxid : ℤ) (r : Reply) → is_reply (reply_packet (pos (next_xid last)) zxid r) ≡ true
counted-told last zxid r =
    let few = next-few last in
    told-by (reply_packet (pos (next_xid last)) zxid r) (next_xid last) (xid-at (pos (next_xid last)) zxid r ∙ back (next_xid last) few) (next-some last) (omega (arith, few))

pub reply_told : (w : Wish) (last : ℕ) (zxid : ℤ) (r : Reply) → is_reply (reply_packet (xid_of w last) zxid r) ≡ true
unfolding reply_packet int_bytes long_bytes
reply_told wish.Ping last zxid (reply.Refused code) = refl
reply_told wish.Ping last zxid (reply.Good b) = refl
reply_told wish.Create last zxid r = counted-told last zxid r
reply_told wish.CreateSequence last zxid r = counted-told last zxid r
reply_told wish.Delete last zxid r = counted-told last zxid r
reply_told wish.SetData last zxid r = counted-told last zxid r
reply_told wish.GetData last zxid r = counted-told last zxid r
reply_told wish.Exists last zxid r = counted-told last zxid r
reply_told wish.GetChildren last zxid r = counted-told last zxid r
reply_told wish.SetFirst last zxid r = counted-told last zxid r

with-error : (packet : List ℕ) → is_reply packet ≡ true → (int_at packet 16 == 0) ≡ false → is_refusal packet ≡ true
with-error packet is error = rw (is, error) refl

without-error : (b : Bool) → (b && not (0 == 0)) ≡ false
without-error true = refl
without-error false = refl

pub refusal_told : (w : Wish) (last : ℕ) (zxid code : ℤ) → minus 200 ≤ℤ code → code <ℤ pos 0 → is_refusal (reply_packet (xid_of w last) zxid (reply.Refused code)) ≡ true
refusal_told w last zxid code low high =
    with-error (reply_packet (xid_of w last) zxid (reply.Refused code)) (reply_told w last zxid (reply.Refused code))
    (ap (λ (n : ℕ). n == 0) (code-at (xid_of w last) zxid code) ∙ negative-back code low high)

pub good_told : (xid zxid : ℤ) (b : Body) → is_refusal (reply_packet xid zxid (reply.Good b)) ≡ false
good_told xid zxid b = ap (λ (n : ℕ). is_reply (reply_packet xid zxid (reply.Good b)) && not (n == 0)) (good-at xid zxid b) ∙ without-error (is_reply (reply_packet xid zxid (reply.Good b)))
