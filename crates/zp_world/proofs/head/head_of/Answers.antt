use Rattle.std.proofs.Common.{◌≡◌, rules}
use Rattle.std.specs.Prelude.{pos, false}
use Rattle.ev_types.specs.Reads.{key_range}
use Rattle.ev_types.specs.declared.ask.RangeReq.{RangeReq}
use Rattle.zn_layout.specs.Keys.{HeadKey, key_bytes}
use Rattle.zp_world.proofs.HeadRange.{look-answers, look-keeps, look-not-denied}
use Rattle.zp_world.proofs.head.head_of.Goals as goal

pub returns-in-Ok-clause-same : goal.returns-in-Ok-clause-same
returns-in-Ok-clause-same c =
    let q : RangeReq = record { key = c.in_ok-head_key.field-0; end = c.new.result; revision = pos 0; limit = pos 0; keys_only = false } in
    let is : q ≡ key_range (key_bytes HeadKey) = rw (c.in_ok-head_key.ensures, c.new.ensures) in
    look-keeps c.args.store.now c.carry_out.new.self (key_bytes HeadKey) q c.in-Ok.answer is c.in-Ok.ensures.carried

pub returns-in-Ok-clause-head : goal.returns-in-Ok-clause-head
returns-in-Ok-clause-head c =
    let q : RangeReq = record { key = c.in_ok-head_key.field-0; end = c.new.result; revision = pos 0; limit = pos 0; keys_only = false } in
    let is : q ≡ key_range (key_bytes HeadKey) = rw (c.in_ok-head_key.ensures, c.new.ensures) in
    c.found_in.ensures _ _ (look-answers c.args.store.now c.carry_out.new.self (key_bytes HeadKey) q c.in-Ok.answer is c.in-Ok.ensures.carried)

pub unreachable-requires : goal.unreachable-requires
unreachable-requires c =
    let q : RangeReq = record { key = c.in_ok-head_key.field-0; end = c.new.result; revision = pos 0; limit = pos 0; keys_only = false } in
    let is : q ≡ key_range (key_bytes HeadKey) = rw (c.in_ok-head_key.ensures, c.new.ensures) in
    look-not-denied c.args.store.now (key_bytes HeadKey) q is (search rules)
