-- What a packet's header shows: a notice by its zxid, and a reply's zxid and code.
use Rattle.std.proofs.Common.{◌≡◌, refl, ap, ◌∙◌, arith, false, ℤ, pos, negsuc}
use Rattle.std.specs.Prelude.{◌≤ℤ◌}
use Rattle.std.specs.Int.{from_be_bytes, cast_signed, cast_unsigned, w32, w64}
use Rattle.std.specs.Ordering.{int_eq}
use Rattle.std.proofs.lemmas.Bool.Decides.{nat_tests}
use Rattle.std.proofs.lemmas.Int.{to_z-of_z, ints}
use Rattle.std.proofs.lemmas.Nat.{from_be_bytes-to_be_bytes_8, from_be_bytes-to_be_bytes_4}
use Rattle.zk_model.specs.declared.reply.Notice.{Notice}
use Rattle.zk_model.specs.declared.reply.Reply.{Reply}
use Rattle.zk_model.specs.declared.reply.Reply.TheVariants as reply
use Rattle.zk_jute.specs.JuteWriting.{int_bytes, long_bytes}
use Rattle.zk_jute.specs.Packets.{reply_packet, notice_packet}
use Rattle.zk_least.specs.LeastWalk.{zxid_in, is_notice}
use Rattle.zk_least.specs.LeastMoments.{code_in}
use Rattle.zk_least.proofs.Rising.{IsLong}
use Rattle.zk_least.proofs.ShortCodes.{code_of, IsShortCode}

pub notice-zxid : (n : Notice) → zxid_in (notice_packet n) ≡ negsuc 0
unfolding zxid_in notice_packet int_bytes long_bytes
notice-zxid n = refl

long-back : (z : ℤ) → IsLong z → cast_signed w64 (from_be_bytes w64 (long_bytes z)) ≡ z
unfolding long_bytes
long-back (pos n) r =
    let b = r.1 in
    ap (cast_signed w64) (from_be_bytes-to_be_bytes_8 (cast_unsigned w64 (pos n)) (omega (arith, ints, b))) ∙ to_z-of_z w64 (pos n) (record { sfits = omega (arith, ints, b) })
long-back (negsuc n) r = let a = r.0 in absurd (omega (arith, ints, a))

reply-zxid-in : (xid z : ℤ) (r : Reply) → zxid_in (reply_packet xid z r) ≡ cast_signed w64 (from_be_bytes w64 (long_bytes z))
unfolding zxid_in reply_packet int_bytes long_bytes
reply-zxid-in xid z (reply.Refused code) = refl
reply-zxid-in xid z (reply.Good b) = refl

pub reply-zxid : (xid z : ℤ) (r : Reply) → IsLong z → zxid_in (reply_packet xid z r) ≡ z
reply-zxid xid z r long = reply-zxid-in xid z r ∙ long-back z long

pub not-notice : (xid z : ℤ) (r : Reply) → IsLong z → is_notice (reply_packet xid z r) ≡ false
not-notice xid z r long = ap (λ q. int_eq q (negsuc 0)) (reply-zxid xid z r long) ∙ low z long.0
  where
    low : (z : ℤ) → pos 0 ≤ℤ z → int_eq z (negsuc 0) ≡ false
    low z h = grind (arith, nat_tests, ints)

reply-code-in : (xid z : ℤ) (r : Reply) → code_in (reply_packet xid z r) ≡ cast_signed w32 (from_be_bytes w32 (int_bytes (code_of r)))
unfolding code_in reply_packet int_bytes long_bytes
reply-code-in xid z (reply.Refused code) = refl
reply-code-in xid z (reply.Good b) = refl

int-back : (z : ℤ) → IsShortCode z → cast_signed w32 (from_be_bytes w32 (int_bytes z)) ≡ z
unfolding int_bytes
int-back (pos n) r =
    let a = r.0 in let b = r.1 in
    ap (cast_signed w32) (from_be_bytes-to_be_bytes_4 (cast_unsigned w32 (pos n)) (omega (arith, ints, a, b))) ∙ to_z-of_z w32 (pos n) (record { sfits = omega (arith, ints, b) })
int-back (negsuc n) r =
    let a = r.0 in let b = r.1 in
    ap (cast_signed w32) (from_be_bytes-to_be_bytes_4 (cast_unsigned w32 (negsuc n)) (omega (arith, ints, a, b))) ∙ to_z-of_z w32 (negsuc n) (record { sfits = omega (arith, ints, a) })

pub reply-code : (xid z : ℤ) (r : Reply) → IsShortCode (code_of r) → code_in (reply_packet xid z r) ≡ code_of r
reply-code xid z r short = reply-code-in xid z r ∙ int-back (code_of r) short
