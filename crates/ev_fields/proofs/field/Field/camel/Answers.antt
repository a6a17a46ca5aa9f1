use Rattle.std.proofs.Common.{◌≡◌, refl}
use Rattle.std.specs.Prelude.{codes}
use Rattle.ev_fields.specs.declared.field.Field.TheVariants.{ResponseDeleteRange, CompactRevision, RequestDeleteRange}
use Rattle.ev_fields.specs.Names.{snake, camel}
use Rattle.ev_fields.proofs.field.Field.camel.Goals as goal

camel-1 : codes "responseDeleteRange" ≡ camel ResponseDeleteRange
unfolding snake camel
camel-1 = refl

camel-2 : codes "compactRevision" ≡ camel CompactRevision
unfolding snake camel
camel-2 = refl

camel-3 : codes "requestDeleteRange" ≡ camel RequestDeleteRange
unfolding snake camel
camel-3 = refl

pub returns-in-ResponseDeleteRange : goal.returns-in-ResponseDeleteRange
returns-in-ResponseDeleteRange c = rw c.in-ResponseDeleteRange.is camel-1

pub returns-in-CompactRevision : goal.returns-in-CompactRevision
returns-in-CompactRevision c = rw c.in-CompactRevision.is camel-2

pub returns-in-RequestDeleteRange : goal.returns-in-RequestDeleteRange
returns-in-RequestDeleteRange c = rw c.in-RequestDeleteRange.is camel-3
