-- What one key has after changes, apart from all other keys, as the code looks it up: a version that has reached the greatest i64
-- stays there. No public contract names these words; `proofs/Folding.antt` ties them to the store's keys.
use Rattle.std.specs.Prelude.{ℕ, ◌+◌, ℤ, pos, ◌+ℤ◌, List, [], ◌∷◌, ◌++◌, if◌then◌else◌, Option, Some, None}
use Rattle.std.specs.Option.{option_to_list}
use Rattle.std.specs.Int.{saturate_signed, w64}
use Rattle.ev_types.specs.declared.answer.Kv.{Kv}
use Rattle.ev_types.specs.declared.ask.RangeReq.{RangeReq}
use Rattle.ev_types.specs.Ranges.{is_within}
use Rattle.ev_types.specs.Store.{Change, Puts, Removes}
use Rattle.ev_store.specs.Changes.{key_of}
use Rattle.zx_base.specs.Maps.{Bytes, same}

-- a key after a put at revision r over what it had
abbrev pub kv_after_put : ℤ → Bytes → Bytes → ℤ → Option Kv → Kv
kv_after_put r k v lease None = record { key = k; value = v; create_revision = r; mod_revision = r; version = pos 1; lease = lease }
kv_after_put r k v lease (Some old) = record { key = k; value = v; create_revision = old.create_revision; mod_revision = r; version = saturate_signed w64 (old.version +ℤ pos 1); lease = lease }

abbrev pub key_after_change : ℤ → Bytes → Option Kv → Change → Option Kv
key_after_change r q old (Puts k v lease) = if same k q then Some (kv_after_put r k v lease old) else old
key_after_change r q old (Removes k) = if same k q then None else old

abbrev pub key_after_changes : ℤ → Bytes → Option Kv → List Change → Option Kv
key_after_changes r q old [] = old
key_after_changes r q old (c ∷ cs) = key_after_changes r q (key_after_change r q old c) cs

-- the first of the revisions has number r
abbrev pub key_after_revisions : ℕ → Bytes → Option Kv → List (List Change) → Option Kv
key_after_revisions r q old [] = old
key_after_revisions r q old (cs ∷ css) = key_after_revisions (r + 1) q (key_after_changes (pos r) q old cs) css

-- ---- what a key of a range has after changes; a key outside the range stays as it was

abbrev pub within_change : RangeReq → ℤ → Bytes → Option Kv → Change → Option Kv
within_change range r q old c = if is_within range.key range.end q then key_after_change r q old c else old

abbrev pub within_changes : RangeReq → ℤ → Bytes → Option Kv → List Change → Option Kv
within_changes range r q old cs = if is_within range.key range.end q then key_after_changes r q old cs else old

abbrev pub within_revisions : RangeReq → ℕ → Bytes → Option Kv → List (List Change) → Option Kv
within_revisions range r q old css = if is_within range.key range.end q then key_after_revisions r q old css else old

-- ---- the puts of revisions, over what each key had before them

-- what a change puts, over what its key had
abbrev pub put_after : ℤ → Option Kv → Change → Option Kv
put_after r old (Puts k v lease) = Some (kv_after_put r k v lease old)
put_after r old (Removes k) = None

abbrev pub puts_after_changes : ℤ → (Bytes → Option Kv) → List Change → List Kv
puts_after_changes r old [] = []
puts_after_changes r old (c ∷ cs) = option_to_list (put_after r (old (key_of c)) c) ++ puts_after_changes r (λ q. key_after_change r q (old q) c) cs

-- the first of the revisions has number r
abbrev pub puts_after_revisions : ℕ → (Bytes → Option Kv) → List (List Change) → List Kv
puts_after_revisions r old [] = []
puts_after_revisions r old (cs ∷ css) = puts_after_changes (pos r) old cs ++ puts_after_revisions (r + 1) (λ q. key_after_changes (pos r) q (old q) cs) css
