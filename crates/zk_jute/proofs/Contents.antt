-- The data of a request is no longer than its frame.
use Rattle.std.proofs.Common.{◌≡◌, ℕ, ◌≤◌, List, [], ◌∷◌, ◌++◌, length, All, ap, arith, ℤ}
use Rattle.std.specs.List.{AllByRecursion, flat_map}
use Rattle.std.proofs.lemmas.List.{length-append}
use Rattle.std.proofs.lemmas.List.Elements.{All-from_recursion}
use Rattle.zk_model.specs.declared.request.Part.{Part}
use Rattle.zk_model.specs.declared.request.Part.TheVariants as parts
use Rattle.zk_model.specs.declared.request.Request.{Request}
use Rattle.zk_model.specs.declared.request.Request.TheVariants as requests
use Rattle.zk_jute.specs.JuteValues.{Value, int, long, boolean, buffer, ustring, ustrings, acls, open_acl, Spelled, Spells}
use Rattle.zk_jute.specs.FromValues.{bytes_in}
use Rattle.zk_jute.specs.Grammar.{IsPart, IsAsked}
use Rattle.zk_jute.specs.Records.{part_contents, contents_of, part_values}
use Rattle.zk_jute.specs.Requests.{Asks, read_request}
use Rattle.zk_jute.proofs.RequestLaws.{found}

-- each of these is no longer than this
abbrev Within : List (List ℕ) → ℕ → Type 0
Within contents n = AllByRecursion (λ content. length content ≤ n) contents

wider : (contents : List (List ℕ)) (n m : ℕ) → n ≤ m → Within contents n → Within contents m
wider [] n m le all = tt
wider (c ∷ cs) n m le all = (omega (arith, all.0), wider cs n m le all.1)

both : (cs ds : List (List ℕ)) (n : ℕ) → Within cs n → Within ds n → Within (cs ++ ds) n
both [] ds n all others = others
both (c ∷ cs) ds n all others = (all.0, both cs ds n all.1 others)

value_within : (v : Value) (bytes : List ℕ) → Spells v bytes → length (bytes_in v) ≤ length bytes
value_within (int n) bytes is = omega arith
value_within (long n) bytes is = omega arith
value_within (boolean b) bytes is = omega arith
value_within (buffer content) bytes is = omega (arith, ap length is.2, length-append is.0 content)
value_within (ustring text) bytes is = omega (arith, ap length is.3, length-append is.0 text)
value_within (ustrings texts) bytes is = omega arith
value_within (acls entries) bytes is = omega arith
value_within open_acl bytes is = omega arith

-- the second of the values of a record
second_within : (v w : Value) (vs : List Value) (bytes : List ℕ) → Spelled Spells (v ∷ w ∷ vs) bytes → length (bytes_in w) ≤ length bytes
second_within v w vs bytes is = omega (arith, value_within w is.3.0 is.3.2, ap length is.4, length-append is.0 is.1, ap length is.3.4, length-append is.3.0 is.3.1)

part_within : (p : Part) (bytes : List ℕ) → Spelled Spells (part_values p) bytes → Within (part_contents p) (length bytes)
part_within (parts.Create path content acl flags) bytes is = (second_within (ustring path) (buffer content) (acls acl ∷ int flags ∷ []) bytes is, tt)
part_within (parts.Delete path version) bytes is = tt
part_within (parts.SetData path content version) bytes is = (second_within (ustring path) (buffer content) (int version ∷ []) bytes is, tt)
part_within (parts.Check path version) bytes is = tt

parts_within : (ps : List Part) (bytes : List ℕ) → Spelled IsPart ps bytes → Within (flat_map part_contents ps) (length bytes)
parts_within [] bytes is = tt
parts_within (p ∷ ps) bytes is =
    let one = is.2 in
    let first = wider (part_contents p) (length one.1) (length bytes) (omega (arith, ap length is.4, length-append is.0 is.1, ap length one.4, length-append one.0 one.1)) (part_within p one.1 one.3) in
    let others = wider (flat_map part_contents ps) (length is.1) (length bytes) (omega (arith, ap length is.4, length-append is.0 is.1)) (parts_within ps is.1 is.3) in
    both (part_contents p) (flat_map part_contents ps) (length bytes) first others

asked_within : (r : Request) (bytes : List ℕ) → IsAsked r bytes → Within (contents_of r) (length bytes)
asked_within (requests.Create path content acl flags) bytes is = (second_within (ustring path) (buffer content) (acls acl ∷ int flags ∷ []) bytes is, tt)
asked_within (requests.SetData path content version) bytes is = (second_within (ustring path) (buffer content) (int version ∷ []) bytes is, tt)
asked_within (requests.Multi ps) bytes is = wider (flat_map part_contents ps) (length is.0) (length bytes) (omega (arith, ap length is.4, length-append is.0 is.1)) (parts_within ps is.0 is.2)
asked_within (requests.Create2 path content acl flags) bytes is = (second_within (ustring path) (buffer content) (acls acl ∷ int flags ∷ []) bytes is, tt)
asked_within r bytes is = tt

pub contents_within : (frame : List ℕ) (xid : ℤ) (r : Request) → read_request frame ≡ Asks xid r → All (λ content. length content ≤ length frame) (contents_of r)
contents_within frame xid r e =
    let is = found frame xid r e in
    let body = asked_within r is.1 is.3 in
    All-from_recursion (λ content. length content ≤ length frame) (contents_of r) (wider (contents_of r) (length is.1) (length frame) (omega (arith, ap length is.4, length-append is.0 is.1)) body)
