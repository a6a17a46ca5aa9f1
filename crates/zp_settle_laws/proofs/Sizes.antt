-- What a frame's request looks up is bounded by the frame's bytes: each path that it names takes four bytes or more, and each part
-- of a multi thirteen.
use Rattle.std.proofs.Common.{◌≡◌, ℕ, ◌+◌, ◌*◌, ◌≤◌, List, [], ◌∷◌, length, refl, ap, arith, Bool, ℤ}
use Rattle.std.proofs.lemmas.List.{length-append}
use Rattle.zk_jute.proofs.RequestLaws.{found}
use Rattle.zk_jute.specs.Grammar.{IsAsked, IsHeader, IsPart}
use Rattle.zk_jute.specs.JuteValues as jute
use Rattle.zk_jute.specs.JuteValues.{IsBoolean, IsUstring, IsVector, Spelled, Spells}
use Rattle.zk_jute.specs.Records.{part_values}
use Rattle.zk_jute.specs.Requests.{Frame, NoHeader, Unreadable, Unknown, Asks, read_request}
use Rattle.zk_model.specs.declared.request.Part.{Part}
use Rattle.zk_model.specs.declared.request.Part.TheVariants as part
use Rattle.zk_model.specs.declared.request.Request.{Request}
use Rattle.zk_model.specs.declared.request.Request.TheVariants as req
use Rattle.zp_settle_laws.specs.Looks.{asks_of, looks, looks_in}

-- ---- texts

text-long : (text bytes : List ℕ) → IsUstring text bytes → 4 ≤ length bytes
text-long text bytes (front, int, utf8, e) = omega (arith, int.0, ap (λ (l : List ℕ). length l) e, length-append front text)

texts-long : (texts : List (List ℕ)) (bytes : List ℕ) → Spelled IsUstring texts bytes → 4 * length texts ≤ length bytes
texts-long [] bytes h = omega arith
texts-long (t ∷ texts) bytes (front, rest, one, more, e) = omega (arith, text-long t front one, texts-long texts rest more, ap (λ (l : List ℕ). length l) e, length-append front rest)

vector-long : (texts : List (List ℕ)) (bytes : List ℕ) → IsVector IsUstring texts bytes → 4 * length texts ≤ length bytes
vector-long texts bytes (front, rest, count, each, e) = omega (arith, texts-long texts rest each, ap (λ (l : List ℕ). length l) e, length-append front rest)

-- ---- parts

flag-long : (b : Bool) (bytes : List ℕ) → IsBoolean b bytes → 1 ≤ length bytes
flag-long b [] h = absurd h
flag-long b (x ∷ bytes) h = omega arith

header-long : (type : ℤ) (last : Bool) (bytes : List ℕ) → IsHeader type last bytes → 9 ≤ length bytes
header-long type last bytes (err, (a, r, int, (b, q, flag, (c, t, code, none, g), f), e)) =
    omega (arith, int.0, flag-long last b flag, code.0, ap (λ (l : List ℕ). length l) e, length-append a r, ap (λ (l : List ℕ). length l) f, length-append b q, ap (λ (l : List ℕ). length l) g, length-append c t)

-- each part begins with its path
values-long : (p : Part) (bytes : List ℕ) → Spelled Spells (part_values p) bytes → 4 ≤ length bytes
values-long (part.Create path content acl flags) bytes (front, rest, one, more, e) = omega (arith, text-long path front one, ap (λ (l : List ℕ). length l) e, length-append front rest)
values-long (part.Delete path version) bytes (front, rest, one, more, e) = omega (arith, text-long path front one, ap (λ (l : List ℕ). length l) e, length-append front rest)
values-long (part.SetData path content version) bytes (front, rest, one, more, e) = omega (arith, text-long path front one, ap (λ (l : List ℕ). length l) e, length-append front rest)
values-long (part.Check path version) bytes (front, rest, one, more, e) = omega (arith, text-long path front one, ap (λ (l : List ℕ). length l) e, length-append front rest)

part-long : (p : Part) (bytes : List ℕ) → IsPart p bytes → 13 ≤ length bytes
part-long p bytes (header, rest, h, values, e) = omega (arith, header-long _ _ header h, values-long p rest values, ap (λ (l : List ℕ). length l) e, length-append header rest)

parts-long : (ps : List Part) (bytes : List ℕ) → Spelled IsPart ps bytes → 13 * length ps ≤ length bytes
parts-long [] bytes h = omega arith
parts-long (p ∷ ps) bytes (front, rest, one, more, e) = omega (arith, part-long p front one, parts-long ps rest more, ap (λ (l : List ℕ). length l) e, length-append front rest)

-- ---- requests

asked-long : (r : Request) (bytes : List ℕ) → IsAsked r bytes → looks r * 2 ≤ 126 + length bytes
asked-long (req.Create p d a f) bytes h = omega arith
asked-long (req.Delete p n) bytes h = omega arith
asked-long (req.SetData p d n) bytes h = omega arith
asked-long (req.Exists p x) bytes h = omega arith
asked-long (req.GetData p x) bytes h = omega arith
asked-long (req.GetAcl p) bytes h = omega arith
asked-long (req.GetChildren p x) bytes h = omega arith
asked-long (req.GetChildren2 p x) bytes h = omega arith
asked-long (req.Check p n) bytes h = omega arith
asked-long (req.SetWatches since exists datas children) bytes (a, ar, since_is, (b, br, datas_are, (c, cr, exists_are, (d, dr, children_are, none, g), f), e), i) =
    omega (arith, vector-long datas b datas_are, vector-long exists c exists_are, vector-long children d children_are, ap (λ (l : List ℕ). length l) i, length-append a ar, ap (λ (l : List ℕ). length l) e, length-append b br, ap (λ (l : List ℕ). length l) f, length-append c cr, ap (λ (l : List ℕ). length l) g, length-append d dr)
asked-long req.Close bytes h = omega arith
asked-long (req.Sync p) bytes h = omega arith
asked-long req.Ping bytes h = omega arith
asked-long (req.Create2 p d a f) bytes h = omega arith
asked-long (req.CheckWatches p k) bytes h = omega arith
asked-long (req.RemoveWatches p k) bytes h = omega arith
asked-long (req.Auth kind scheme auth) bytes h = omega arith
asked-long (req.Multi parts) bytes (front, last, spelled, end, e) = omega (arith, parts-long parts front spelled, ap (λ (l : List ℕ). length l) e, length-append front last)

-- the xid and the type, before the body
type-long : (xid type : ℤ) (bytes : List ℕ) → Spelled Spells (jute.int xid ∷ jute.int type ∷ []) bytes → 8 ≤ length bytes
type-long xid type bytes (a, r, first, (b, q, second, none, f), e) = omega (arith, first.0, second.0, ap (λ (l : List ℕ). length l) e, length-append a r, ap (λ (l : List ℕ). length l) f, length-append b q)

pub request-long : (bytes : List ℕ) (xid : ℤ) (r : Request) → read_request bytes ≡ Asks xid r → looks r * 2 ≤ 118 + length bytes
request-long bytes xid r e =
    let t = found bytes xid r e in
    omega (arith, type-long _ _ t.0 t.2, asked-long r t.1 t.3, ap (λ (l : List ℕ). length l) t.4, length-append t.0 t.1)

frame-long : (bytes : List ℕ) (x : Frame) → read_request bytes ≡ x → looks_in x + 4 ≤ 64 + length bytes
frame-long bytes NoHeader e = omega arith
frame-long bytes (Unreadable xid place) e = omega arith
frame-long bytes (Unknown xid kind) e = omega arith
frame-long bytes (Asks xid r) e = omega (arith, request-long bytes xid r e)

-- so a frame takes 64 asks and one for each of its bytes
pub frame-asks : (bytes : List ℕ) → asks_of bytes ≤ 64 + length bytes
frame-asks bytes = frame-long bytes (read_request bytes) refl
