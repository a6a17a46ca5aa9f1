-- Keys that are laid over a view, as the parts of a multi wrote them, and what is written of them in the end.
use Rattle.std.specs.Prelude.{ℤ, pos, Bool, true, false, not, ◌&&◌, List, [], ◌∷◌, filter, fold, map, Option, Some, None, if◌then◌else◌}
use Rattle.std.specs.List.{flat_map}
use Rattle.std.specs.Option.{option_to_list}
use Rattle.ev_types.specs.declared.answer.Kv.{Kv}
use Rattle.ev_types.specs.declared.ask.Act.{Act}
use Rattle.ev_types.specs.declared.ask.Act.TheVariants as act
use Rattle.zx_base.specs.Maps.{Bytes, same}
use Rattle.zn_layout.specs.Changes.{KeyChange, Put}
use Rattle.zn_layout.specs.Keys.{Key, key_bytes}
use Rattle.zn_view.specs.declared.snapshot.SeenKey.{SeenKey}
use Rattle.zn_view.specs.Laying.{with_laid}
use Rattle.zn_view.specs.Seen.{View, empty_view, seen, IsOfKind, kind_of_bytes}

-- what this update puts under a key. A mod_revision of 0 is that of the update
abbrev pub put_now : Bytes → Bytes → ℤ → Kv
put_now key value lease = record { key = key; value = value; create_revision = pos 0; mod_revision = pos 0; version = pos 0; lease = lease }

-- ---- one operation after the other

-- lays the key of a put or a delete over what the view saw of it; a read lays nothing
abbrev pub with_act : View → Act → View
with_act v (act.Put key value lease) = with_laid v (record { key = key; found = Some (put_now key value lease) })
with_act v (act.Delete key) = with_laid v (record { key = key; found = None })
with_act v (act.Range q) = v

abbrev pub with_acts : View → List Act → View
with_acts v acts = fold with_act v acts

-- if it is a put, it puts a record of the key's kind
abbrev pub PutsRecord : Act → Type 0
PutsRecord (act.Put key value lease) = IsOfKind (kind_of_bytes key) value
PutsRecord (act.Delete key) = Unit {0}
PutsRecord (act.Range q) = Unit {0}

-- ---- what is written in the end

-- whether a view saw that a key is absent
abbrev pub is_absent : Option (Option Kv) → Bool
is_absent (Some None) = true
is_absent (Some (Some kv)) = false
is_absent None = false

abbrev pub deletes : View → Bytes → Option Act
deletes v key = if is_absent (seen v key) then None else Some (act.Delete key)

abbrev pub write_at : View → Bytes → Option Kv → Option Act
write_at v key (Some kv) = Some (act.Put key kv.value kv.lease)
write_at v key None = deletes v key

-- the operation that writes a key as it was laid: none where the view saw it absent and it is absent again
abbrev pub write_of : View → SeenKey → Option Act
write_of v x = write_at v x.key x.found

abbrev pub written_acts : View → List SeenKey → List Act
written_acts v xs = flat_map (λ x. option_to_list (write_of v x)) xs

-- ---- what is laid and written, as changes of keys

abbrev pub found_of : Key → Option Put → Option Kv
found_of k None = None
found_of k (Some w) = Some (put_now (key_bytes k) w.value w.lease)

abbrev pub seen_of : KeyChange → SeenKey
seen_of c = record { key = key_bytes c.key; found = found_of c.key c.put }

-- a view with these changes alone
abbrev pub laid_view : List KeyChange → View
laid_view ws = record empty_view { keys = map seen_of ws }

-- a change in place of the one of the same key, or at the end
abbrev pub laid : List KeyChange → KeyChange → List KeyChange
laid [] c = c ∷ []
laid (w ∷ ws) c = if same (key_bytes w.key) (key_bytes c.key) then c ∷ ws else w ∷ laid ws c

abbrev pub all_laid : List KeyChange → List KeyChange → List KeyChange
all_laid ws cs = fold laid ws cs

abbrev pub is_gone : Option Put → Bool
is_gone None = true
is_gone (Some w) = false

abbrev pub is_written : View → KeyChange → Bool
is_written v c = not (is_gone c.put && is_absent (seen v (key_bytes c.key)))

-- the changes that are written: all but those of keys that were absent and are absent again
abbrev pub written : View → List KeyChange → List KeyChange
written v ws = filter (is_written v) ws
