use Rattle.std.proofs.Common.{rules}
use Rattle.ev_json.proofs.Spellings.{kv_spelled}
use Rattle.ev_json.proofs.straight.kv.Goals as goal

pub returns : goal.returns
returns c =
    let h =
    kv_spelled c.args.bytes.now c.in_ok-key.rest.now c.in_ok-create_revision.rest.now c.in_ok-mod_revision.rest.now c.in_ok-version.rest.now c.in_ok-value.rest.now c.in_ok-lease.rest.now c.in_ok-rest.rest.now
    c.in_ok-key.key.now c.in_ok-create_revision.create_revision.now c.in_ok-mod_revision.mod_revision.now c.in_ok-version.version.now c.in_ok-value.value c.in_ok-lease.lease
    (record { key = c.in_ok-key-2.key; value = c.in_ok-value-2.value; create_revision = c.in_ok-create_revision-2.create_revision; mod_revision = c.in_ok-mod_revision-2.mod_revision; version = c.in_ok-version-2.version; lease = c.in_ok-lease-2.lease })
    (search rules) (search rules) (search rules) (search rules) (search rules) (search rules) (search rules) (search rules) (search rules) (search rules) (search rules) (search rules) (search rules) in
    search (rules, h)
