-- A body that is there is read, and no fault is named.
use Rattle.std.proofs.Common.{Some, ◌≡◌, ℕ, ◌+◌, ◌<◌, ◌≤◌, List, [], ◌∷◌, ◌++◌, length, take, Result, Ok, Err, refl, sym, ap, subst, ◌∙◌, append_assoc, append-nil, length-append, arith, inl, inr}
use Rattle.std.specs.Prelude.{All}
use Rattle.std.specs.Global.{Vec}
use Rattle.std.specs.List.{flat_map}
use Rattle.std.proofs.Math.Seq.{take-append_seam}
use Rattle.std.proofs.lemmas.List.Elements.{All-head, All-tail}
use Rattle.httparse.specs.Grammar.{LineEnd, print_end, ChunkLine, IsChunkLine, print_chunk_line, chunk_size}
use Rattle.httparse.proofs.ChunkLemmas.{chunk_line_unique}
use Rattle.httparse.proofs.PieceLemmas.{print_end_unique}
use Rattle.ev_http.specs.declared.fault.HttpFault.{HttpFault}
use Rattle.ev_http.specs.declared.fault.HttpFault.TheVariants as fault
use Rattle.ev_http.specs.declared.framing.Framing.{Framing}
use Rattle.ev_http.specs.declared.framing.Framing.TheVariants as framing
use Rattle.ev_http.specs.declared.body.Part.{Part}
use Rattle.ev_http.specs.declared.body.Part.TheVariants as part
use Rattle.ev_http.specs.declared.taking.Tally.{Tally}
use Rattle.zx_outside.specs.Reading.{HasNoFeed}
use Rattle.ev_http.specs.Taking.{Told, Ends}
use Rattle.ev_http.specs.Body.{Chunk, IsChunk, print_chunk, IsLastLine, print_chunks, contents, IsFieldLine, InChunks, Framed, AtSize, AtContent, AtGap, AtTrailer, Came, IsOpen, announced, BreaksAt, BodyAnswer, EndsWhole, LastsTo, IsNoChunk, IsNoTrailer, ReadsBody}
use Rattle.ev_http.proofs.Feeds.{text_short, size_text, size_line}
use Rattle.ev_http.proofs.Heads.{front_of}
use Rattle.ev_http.proofs.Chunks.{same_front, first_line, end_text, not_end, peel}

-- ---- chunks in front are the first chunks of a body

split_same : (a b x y : List ℕ) → length a ≡ length b → a ++ x ≡ b ++ y → (a ≡ b) × (x ≡ y)
split_same a b x y size e = (sym (take-append_seam a x) ∙ ap (λ (n : ℕ). take n (a ++ x)) size ∙ ap (take (length b)) e ∙ take-append_seam b y, same_front a b x y size e)

chunk_unique : (c d : Chunk) (x y : List ℕ) → IsChunk c → IsChunk d → print_chunk c ++ x ≡ print_chunk d ++ y → (c.content ≡ d.content) × (x ≡ y)
chunk_unique c d x y is has e =
    let same = chunk_line_unique (print_chunk c ++ x) c.line d.line ((c.content ++ 13 ∷ 10 ∷ []) ++ x) ((d.content ++ 13 ∷ 10 ∷ []) ++ y)
    (is.line.is_line, append_assoc (print_chunk_line c.line) (c.content ++ 13 ∷ 10 ∷ []) x) (has.line.is_line, e ∙ append_assoc (print_chunk_line d.line) (d.content ++ 13 ∷ 10 ∷ []) y) in
    let onward : c.content ++ (13 ∷ 10 ∷ x) ≡ d.content ++ (13 ∷ 10 ∷ y) = sym (append_assoc c.content (13 ∷ 10 ∷ []) x) ∙ same.1 ∙ append_assoc d.content (13 ∷ 10 ∷ []) y in
    let size : length c.content ≡ length d.content = is.size ∙ ap chunk_size same.0 ∙ sym has.size in
    let parts = split_same c.content d.content (13 ∷ 10 ∷ x) (13 ∷ 10 ∷ y) size onward in
    let rest = parts.1 in
    (parts.0, cc)

-- The chunks that follow those in front.
record Follows (cs : List Chunk) (last : ChunkLine) (x y body : List ℕ) : Type 0 where
  chunks : List Chunk
  are_chunks : All IsChunk chunks
  body_is : body ≡ contents cs ++ contents chunks
  bytes_are : x ≡ print_chunks chunks ++ (print_chunk_line last ++ y)

chunks_follow : (cs ds : List Chunk) (last : ChunkLine) (x y : List ℕ) → All IsChunk cs → All IsChunk ds → IsLastLine last → print_chunks cs ++ x ≡ print_chunks ds ++ (print_chunk_line last ++ y) → Follows cs last x y (contents ds)
chunks_follow [] ds last x y a b is e = record { chunks = ds; are_chunks = b; body_is = refl; bytes_are = e }
chunks_follow (c ∷ cs) [] last x y a b is e =
    let has = All-head IsChunk c cs a in
    let same = chunk_line_unique (print_chunks (c ∷ cs) ++ x) c.line last (((c.content ++ 13 ∷ 10 ∷ []) ++ print_chunks cs) ++ x) y
    (has.line.is_line, ap (λ (t : List ℕ). t ++ x) (append_assoc (print_chunk_line c.line) (c.content ++ 13 ∷ 10 ∷ []) (print_chunks cs)) ∙ append_assoc (print_chunk_line c.line) ((c.content ++ 13 ∷ 10 ∷ []) ++ print_chunks cs) x) (is.line.is_line, e) in
    absurd (omega (arith, has.some, ap chunk_size same.0, is.none))
chunks_follow (c ∷ cs) (d ∷ ds) last x y a b is e =
    let same = chunk_unique c d (print_chunks cs ++ x) (print_chunks ds ++ (print_chunk_line last ++ y)) (All-head IsChunk c cs a) (All-head IsChunk d ds b)
    (sym (append_assoc (print_chunk c) (print_chunks cs) x) ∙ e ∙ append_assoc (print_chunk d) (print_chunks ds) (print_chunk_line last ++ y)) in
    let later = chunks_follow cs ds last x y (All-tail IsChunk c cs a) (All-tail IsChunk d ds b) is same.1 in
    record {
      chunks = later.chunks;
      are_chunks = later.are_chunks;
      body_is = ap (λ (t : List ℕ). t ++ contents ds) (sym same.0) ∙ ap (λ (t : List ℕ). c.content ++ t) later.body_is ∙ sym (append_assoc c.content (contents cs) (contents later.chunks));
      bytes_are = later.bytes_are;
    }

-- What follows the last line of a body in chunks, and then what is left.
abbrev ending : (body after : List ℕ) → InChunks body after → List ℕ → List ℕ
ending body after b rest = b.fields ++ (print_end b.end ++ rest)

chunks_then : (body after rest : List ℕ) (b : InChunks body after) → after ++ rest ≡ print_chunks b.chunks ++ (print_chunk_line b.last ++ ending body after b rest)
chunks_then body after rest b =
    ap (λ (x : List ℕ). x ++ rest) b.bytes_are ∙ append_assoc (print_chunks b.chunks) (print_chunk_line b.last ++ (b.fields ++ print_end b.end)) rest
    ∙ ap (λ (x : List ℕ). print_chunks b.chunks ++ x) (append_assoc (print_chunk_line b.last) (b.fields ++ print_end b.end) rest ∙ ap (λ (x : List ℕ). print_chunk_line b.last ++ x) (append_assoc b.fields (print_end b.end) rest))

-- whole chunks of a body, and what follows them
follows : (cs : List Chunk) (tail bytes left body after rest : List ℕ) (b : InChunks body after) → All IsChunk cs → bytes ≡ print_chunks cs ++ tail → after ++ rest ≡ bytes ++ left → Follows cs b.last (tail ++ left) (ending body after b rest) body
follows cs tail bytes left body after rest b are is e =
    let whole : print_chunks cs ++ (tail ++ left) ≡ print_chunks b.chunks ++ (print_chunk_line b.last ++ ending body after b rest) =
    sym (append_assoc (print_chunks cs) tail left) ∙ ap (λ (x : List ℕ). x ++ left) (sym is) ∙ sym e ∙ chunks_then body after rest b in
    subst (λ (x : List ℕ). Follows cs b.last (tail ++ left) (ending body after b rest) x) (sym b.body_is) (chunks_follow cs b.chunks b.last (tail ++ left) (ending body after b rest) are b.are_chunks b.is_last whole)

-- bytes without a line feed are no whole line
no_line : (a front rest : List ℕ) → HasNoFeed a → a ≡ (front ++ 10 ∷ []) ++ rest → ⊥
no_line a front rest none e =
    let le = text_short a [] front rest none (append-nil a ∙ e) in
    omega (arith, le, ap length e, length-append (front ++ 10 ∷ []) rest, length-append front (10 ∷ []))

-- ---- where the line before a chunk stands

-- the line of a chunk is that of the next chunk
next_size : (cs : List Chunk) (size last : ChunkLine) (x y body tail : List ℕ) → IsChunkLine size → 0 < chunk_size size → IsLastLine last → (f : Follows cs last x y body) → x ≡ print_chunk_line size ++ tail
    → (e : Chunk) × (es : List Chunk) × IsChunk e × (size ≡ e.line) × (f.chunks ≡ e ∷ es) × (tail ≡ e.content ++ (13 ∷ 10 ∷ (print_chunks es ++ (print_chunk_line last ++ y))))
next_size cs size last x y body tail is some none f e = next f.chunks f.are_chunks f.bytes_are
  where
    next : (ds : List Chunk) → All IsChunk ds → x ≡ print_chunks ds ++ (print_chunk_line last ++ y)
        → (d : Chunk) × (es : List Chunk) × IsChunk d × (size ≡ d.line) × (ds ≡ d ∷ es) × (tail ≡ d.content ++ (13 ∷ 10 ∷ (print_chunks es ++ (print_chunk_line last ++ y))))
    next [] are is_bytes =
        let same = chunk_line_unique x size last tail y (is, e) (none.line.is_line, is_bytes) in
        absurd (omega (arith, some, ap chunk_size same.0, none.none))
    next (d ∷ es) are is_bytes =
        let has = All-head IsChunk d es are in
        let rest = print_chunks es ++ (print_chunk_line last ++ y) in
        let whole : x ≡ print_chunk_line d.line ++ (d.content ++ (13 ∷ 10 ∷ rest)) =
        is_bytes ∙ append_assoc (print_chunk d) (print_chunks es) (print_chunk_line last ++ y) ∙ append_assoc (print_chunk_line d.line) (d.content ++ 13 ∷ 10 ∷ []) rest
        ∙ ap (λ (t : List ℕ). print_chunk_line d.line ++ t) (append_assoc d.content (13 ∷ 10 ∷ []) rest) in
        let same = chunk_line_unique x size d.line tail (d.content ++ (13 ∷ 10 ∷ rest)) (is, e) (has.line.is_line, whole) in
        (d, es, has, same.0, refl, same.1)

-- the last line is that of the body, and no chunk follows
next_last : (cs : List Chunk) (size last : ChunkLine) (x y body tail : List ℕ) → IsLastLine size → IsLastLine last → Follows cs last x y body → x ≡ print_chunk_line size ++ tail → (tail ≡ y) × (body ≡ contents cs)
next_last cs size last x y body tail is none f e = next f.chunks f.are_chunks f.bytes_are f.body_is
  where
    next : (ds : List Chunk) → All IsChunk ds → x ≡ print_chunks ds ++ (print_chunk_line last ++ y) → body ≡ contents cs ++ contents ds → (tail ≡ y) × (body ≡ contents cs)
    next [] are is_bytes is_body = ((chunk_line_unique x size last tail y (is.line.is_line, e) (none.line.is_line, is_bytes)).1, is_body ∙ append-nil (contents cs))
    next (d ∷ es) are is_bytes is_body =
        let has = All-head IsChunk d es are in
        let same = chunk_line_unique x size d.line tail ((d.content ++ 13 ∷ 10 ∷ []) ++ (print_chunks es ++ (print_chunk_line last ++ y))) (is.line.is_line, e)
        (has.line.is_line, is_bytes ∙ append_assoc (print_chunk d) (print_chunks es) (print_chunk_line last ++ y) ∙ append_assoc (print_chunk_line d.line) (d.content ++ 13 ∷ 10 ∷ []) (print_chunks es ++ (print_chunk_line last ++ y))) in
        absurd (omega (arith, has.some, ap chunk_size same.0, is.none))

-- ---- what came of a body is a front of it, and is not all that is left

-- A body goes on by at least so many bytes.
pub record GoesOnBy (n : ℕ) (front body : List ℕ) : Type 0 where
  pub more : List ℕ
  pub body_is : body ≡ front ++ more
  pub announced : n ≤ length more

content_after : (start place n : ℕ) (f : Framing) (line bytes body' left body after rest : List ℕ) (b : InChunks body after) → AtContent start place n f line bytes body' → after ++ rest ≡ bytes ++ left
    → GoesOnBy n body' body × (left ≡ [] → ⊥)
content_after start place n f line bytes body' left body after rest b at e =
    let x = (print_chunk_line at.size ++ at.content) ++ left in
    let y = ending body after b rest in
    let fs = follows at.chunks (print_chunk_line at.size ++ at.content) bytes left body after rest b at.so_far.are_chunks at.so_far.bytes_are e in
    let next = next_size at.chunks at.size b.last x y body (at.content ++ left) at.is_size.is_line (omega (arith, at.left_is, at.some)) b.is_last fs (append_assoc (print_chunk_line at.size) at.content left) in
    let size : length next.0.content ≡ length at.content + n = next.2.size ∙ ap chunk_size (sym next.3) ∙ sym at.left_is in
    let onward = 13 ∷ 10 ∷ (print_chunks next.1 ++ (print_chunk_line b.last ++ y)) in
    let q = front_of next.0.content onward at.content left (sym next.5) (omega (arith, size)) in
    let long : length next.0.content ≡ length at.content + length q.0 = ap length q.1 ∙ length-append at.content q.0 in (
      record {
        more = q.0 ++ contents next.1;
        body_is = fs.body_is ∙ ap (λ (c : List Chunk). contents at.chunks ++ contents c) next.4 ∙ ap (λ (t : List ℕ). contents at.chunks ++ (t ++ contents next.1)) q.1
            ∙ ap (λ (t : List ℕ). contents at.chunks ++ t) (append_assoc at.content q.0 (contents next.1)) ∙ sym (append_assoc (contents at.chunks) at.content (q.0 ++ contents next.1))
            ∙ ap (λ (t : List ℕ). t ++ (q.0 ++ contents next.1)) (sym at.body_is);
        announced = omega (arith, size, long, length-append q.0 (contents next.1));
      },
      λ none. omega (arith, size, at.some, ap length next.5, length-append at.content left, ap length none, length-append next.0.content onward),
    )

gap_after : (start place : ℕ) (f : Framing) (line bytes body' left body after rest : List ℕ) (b : InChunks body after) → AtGap start place f line bytes body' → after ++ rest ≡ bytes ++ left
    → GoesOnBy 0 body' body × (left ≡ [] → ⊥)
gap_after start place f line bytes body' left body after rest b at e =
    let x = (print_chunk_line at.size ++ (at.content ++ line)) ++ left in
    let y = ending body after b rest in
    let fs = follows at.chunks (print_chunk_line at.size ++ (at.content ++ line)) bytes left body after rest b at.so_far.are_chunks at.so_far.bytes_are e in
    let next = next_size at.chunks at.size b.last x y body ((at.content ++ line) ++ left) at.is_size.is_line at.some b.is_last fs (append_assoc (print_chunk_line at.size) (at.content ++ line) left) in
    let size : length at.content ≡ length next.0.content = at.size_is ∙ ap chunk_size next.3 ∙ sym next.2.size in
    let more = print_chunks next.1 ++ (print_chunk_line b.last ++ y) in
    let parts = split_same at.content next.0.content (line ++ left) (13 ∷ 10 ∷ more) size (sym (append_assoc at.content line left) ∙ next.5) in
    let gap = parts.1 in (
      record {
        more = contents next.1;
        body_is = fs.body_is ∙ ap (λ (c : List Chunk). contents at.chunks ++ contents c) next.4 ∙ ap (λ (t : List ℕ). contents at.chunks ++ (t ++ contents next.1)) (sym parts.0)
            ∙ sym (append_assoc (contents at.chunks) at.content (contents next.1)) ∙ ap (λ (t : List ℕ). t ++ contents next.1) (sym at.body_is);
        announced = omega arith;
      },
      λ none. no_line line (13 ∷ []) more at.no_feed (sym (append-nil line) ∙ ap (λ (t : List ℕ). line ++ t) (sym none) ∙ gap),
    )

size_after : (start place : ℕ) (f : Framing) (line bytes body' left body after rest : List ℕ) (b : InChunks body after) → AtSize start place f line bytes body' → after ++ rest ≡ bytes ++ left
    → GoesOnBy 0 body' body × (left ≡ [] → ⊥)
size_after start place f line bytes body' left body after rest b at e =
    let y = ending body after b rest in
    let fs = follows at.chunks line bytes left body after rest b at.so_far.are_chunks at.so_far.bytes_are e in (
      record { more = contents fs.chunks; body_is = fs.body_is ∙ ap (λ (t : List ℕ). t ++ contents fs.chunks) (sym at.body_is); announced = omega arith },
      λ none. size_cut line fs.chunks b.last y at.no_feed (sym (append-nil line) ∙ ap (λ (t : List ℕ). line ++ t) (sym none) ∙ fs.bytes_are),
    )
  where
    size_cut : (line : List ℕ) (ds : List Chunk) (last : ChunkLine) (y : List ℕ) → HasNoFeed line → line ≡ print_chunks ds ++ (print_chunk_line last ++ y) → ⊥
    size_cut line [] last y none e = no_line line (size_text last) y none (e ∙ ap (λ (t : List ℕ). t ++ y) (size_line last))
    size_cut line (d ∷ ds) last y none e =
        let rest = (d.content ++ 13 ∷ 10 ∷ []) ++ (print_chunks ds ++ (print_chunk_line last ++ y)) in
        no_line line (size_text d.line) rest none
        (e ∙ append_assoc (print_chunk d) (print_chunks ds) (print_chunk_line last ++ y) ∙ append_assoc (print_chunk_line d.line) (d.content ++ 13 ∷ 10 ∷ []) (print_chunks ds ++ (print_chunk_line last ++ y)) ∙ ap (λ (t : List ℕ). t ++ rest) (size_line d.line))

trailer_after : (start place n : ℕ) (f : Framing) (line bytes body' left body after rest : List ℕ) (b : InChunks body after) → AtTrailer start place n f line bytes body' → after ++ rest ≡ bytes ++ left
    → GoesOnBy 0 body' body × (left ≡ [] → ⊥)
trailer_after start place n f line bytes body' left body after rest b at e =
    let y = ending body after b rest in
    let x = (print_chunk_line at.last ++ line) ++ left in
    let fs = follows at.chunks (print_chunk_line at.last ++ line) bytes left body after rest b at.are_chunks at.bytes_are e in
    let next = next_last at.chunks at.last b.last x y body (line ++ left) at.is_last b.is_last fs (append_assoc (print_chunk_line at.last) line left) in
    let lines = at.are_fields in
    let fields = b.are_fields in
    let rows : flat_map (λ (l : List ℕ). l) lines.0 ++ (at.cut ++ left) ≡ flat_map (λ (l : List ℕ). l) fields.0 ++ (print_end b.end ++ rest) =
    ap (λ (t : List ℕ). t ++ (at.cut ++ left)) (sym lines.2) ∙ sym (append_assoc at.text at.cut left) ∙ ap (λ (t : List ℕ). t ++ left) (sym at.line_is) ∙ next.0 ∙ ap (λ (t : List ℕ). t ++ (print_end b.end ++ rest)) fields.2 in
    let got = peel lines.0 fields.0 b.end (at.cut ++ left) rest lines.1 fields.1 rows in (
      record { more = []; body_is = next.1 ∙ sym at.body_is ∙ sym (append-nil body'); announced = omega arith },
      λ none. fields_cut at.cut got.0 b.end rest at.no_feed got.1 (sym (append-nil at.cut) ∙ ap (λ (t : List ℕ). at.cut ++ t) (sym none) ∙ got.3),
    )
  where
    fields_cut : (cut : List ℕ) (ns : List (List ℕ)) (end : LineEnd) (rest : List ℕ) → HasNoFeed cut → All IsFieldLine ns → cut ≡ flat_map (λ (l : List ℕ). l) ns ++ (print_end end ++ rest) → ⊥
    fields_cut cut [] end rest none all e = let t = end_text end in no_line cut t.0 rest none (e ∙ ap (λ (x : List ℕ). x ++ rest) t.2)
    fields_cut cut (m ∷ ms) end rest none all e =
        let is = (All-head IsFieldLine m ms all).is_line in
        let more = flat_map (λ (l : List ℕ). l) ms ++ (print_end end ++ rest) in
        no_line cut is.0 more none (e ∙ append_assoc m (flat_map (λ (l : List ℕ). l) ms) (print_end end ++ rest) ∙ ap (λ (x : List ℕ). x ++ more) is.2)

-- ---- a body is carried in one way only

ends_same : (ns : List (List ℕ)) (a b : LineEnd) (left rest : List ℕ) → All IsFieldLine ns → print_end a ++ left ≡ flat_map (λ (l : List ℕ). l) ns ++ (print_end b ++ rest) → left ≡ rest
ends_same [] a b left rest all e = (print_end_unique a b left rest e).1
ends_same (m ∷ ms) a b left rest all e =
    let is = All-head IsFieldLine m ms all in
    let t = end_text a in
    let more = flat_map (λ (l : List ℕ). l) ms ++ (print_end b ++ rest) in
    absurd (not_end m a is (first_line m (print_end a) more left is.is_line (t.0, t.1, t.2) (sym (append_assoc m (flat_map (λ (l : List ℕ). l) ms) (print_end b ++ rest)) ∙ sym e)))

chunks_same : (bytes body' left body after rest : List ℕ) → InChunks body' bytes → InChunks body after → after ++ rest ≡ bytes ++ left → (body' ≡ body) × (left ≡ rest)
chunks_same bytes body' left body after rest a b e =
    let tail = a.fields ++ print_end a.end in
    let x = (print_chunk_line a.last ++ tail) ++ left in
    let y = ending body after b rest in
    let fs = follows a.chunks (print_chunk_line a.last ++ tail) bytes left body after rest b a.are_chunks a.bytes_are e in
    let next = next_last a.chunks a.last b.last x y body (tail ++ left) a.is_last b.is_last fs (append_assoc (print_chunk_line a.last) tail left) in
    let lines = a.are_fields in
    let fields = b.are_fields in
    let rows : flat_map (λ (l : List ℕ). l) lines.0 ++ (print_end a.end ++ left) ≡ flat_map (λ (l : List ℕ). l) fields.0 ++ (print_end b.end ++ rest) =
    ap (λ (t : List ℕ). t ++ (print_end a.end ++ left)) (sym lines.2) ∙ sym (append_assoc a.fields (print_end a.end) left) ∙ next.0 ∙ ap (λ (t : List ℕ). t ++ (print_end b.end ++ rest)) fields.2 in
    let got = peel lines.0 fields.0 b.end (print_end a.end ++ left) rest lines.1 fields.1 rows in
    (a.body_is ∙ sym next.1, ends_same got.0 a.end b.end left rest got.1 got.3)

framed_same : (f : Framing) (bytes body' left body after rest : List ℕ) → Framed f body' bytes → Framed f body after → after ++ rest ≡ bytes ++ left → LastsTo f rest → LastsTo f left → (body' ≡ body) × (left ≡ rest)
framed_same (framing.Counted n) bytes body' left body after rest a b e none none' =
    let size : length after ≡ length bytes = ap length b.0 ∙ b.1 ∙ sym a.1 ∙ ap length (sym a.0) in
    let parts = split_same after bytes rest left size e in
    (sym a.0 ∙ sym parts.0 ∙ b.0, sym parts.1)
framed_same framing.ToEnd bytes body' left body after rest a b e none none' =
    let size : length after ≡ length bytes = omega (arith, ap length e, length-append after rest, length-append bytes left, ap length none, ap length none') in
    let parts = split_same after bytes rest left size e in
    (sym a ∙ sym parts.0 ∙ b, none' ∙ sym none)
framed_same framing.Chunked bytes body' left body after rest a b e none none' = chunks_same bytes body' left body after rest a b e

whole_fits : (f : Framing) (bytes body' left body after rest : List ℕ) → Framed f body' bytes → Framed f body after → after ++ rest ≡ bytes ++ left → LastsTo f rest → GoesOnBy 0 body' body
whole_fits (framing.Counted n) bytes body' left body after rest a b e none =
    let same = framed_same (framing.Counted n) bytes body' left body after rest a b e none tt in
    record { more = []; body_is = sym same.0 ∙ sym (append-nil body'); announced = omega arith }
whole_fits framing.ToEnd bytes body' left body after rest a b e none =
    record { more = left; body_is = sym b ∙ sym (append-nil after) ∙ ap (λ (t : List ℕ). after ++ t) (sym none) ∙ e ∙ ap (λ (t : List ℕ). t ++ left) a; announced = omega arith }
whole_fits framing.Chunked bytes body' left body after rest a b e none =
    let same = chunks_same bytes body' left body after rest a b e in
    record { more = []; body_is = sym same.0 ∙ sym (append-nil body'); announced = omega arith }

in_chunks : (f : Framing) (body after : List ℕ) → f ≡ framing.Chunked → Framed f body after → InChunks body after
in_chunks f body after is framed = subst (λ (x : Framing). Framed x body after) is framed

-- what came of a body that is there
pub came_after : (p : Part) (start : ℕ) (f : Framing) (line bytes body' left body after rest : List ℕ) → Framed f body after → Came start f p line bytes body' → after ++ rest ≡ bytes ++ left → LastsTo f rest
    → GoesOnBy (announced p) body' body × (IsOpen p line → left ≡ [] → ⊥)
came_after (part.Counted n) start f line bytes body' left body after rest framed came e none =
    let b = subst (λ (x : Framing). Framed x body after) came.0 framed in
    let size : length body ≡ length body' + n = b.1 in
    let q = front_of body rest body' left (ap (λ (t : List ℕ). t ++ rest) (sym b.0) ∙ e ∙ ap (λ (t : List ℕ). t ++ left) came.1) (omega (arith, size)) in (
      record { more = q.0; body_is = q.1; announced = omega (arith, size, ap length q.1, length-append body' q.0) },
      λ more nil. omega (arith, more, size, ap length e, ap length nil, ap length b.0, ap length came.1, length-append after rest, length-append bytes left),
    )
came_after part.ToEnd start f line bytes body' left body after rest framed came e none =
    (whole_fits f bytes body' left body after rest (subst (λ (x : Framing). Framed x body' bytes) (sym came.0) came.1) framed e none, λ more nil. absurd more)
came_after (part.Size place) start f line bytes body' left body after rest framed came e none =
    let got = size_after start place f line bytes body' left body after rest (in_chunks f body after came.so_far.chunked framed) came e in
    (got.0, λ more. got.1)
came_after (part.Content place n) start f line bytes body' left body after rest framed came e none =
    let got = content_after start place n f line bytes body' left body after rest (in_chunks f body after came.so_far.chunked framed) came e in
    (got.0, λ more. got.1)
came_after (part.Gap place) start f line bytes body' left body after rest framed came e none =
    let got = gap_after start place f line bytes body' left body after rest (in_chunks f body after came.so_far.chunked framed) came e in
    (got.0, λ more. got.1)
came_after (part.Trailer place n) start f line bytes body' left body after rest framed came e none =
    let got = trailer_after start place n f line bytes body' left body after rest (in_chunks f body after came.chunked framed) came e in
    (got.0, λ more. got.1)
came_after part.Whole start f line bytes body' left body after rest framed came e none = (whole_fits f bytes body' left body after rest came framed e none, λ more nil. absurd more)

-- a body that is there does not break off
chunk_breaks : (chunks : List Chunk) (tail bytes left body after rest : List ℕ) → InChunks body after → All IsChunk chunks → bytes ≡ print_chunks chunks ++ tail → IsNoChunk tail → after ++ rest ≡ bytes ++ left → ⊥
chunk_breaks chunks tail bytes left body after rest b are is none e =
    let y = ending body after b rest in
    let fs = follows chunks tail bytes left body after rest b are is e in
    breaks fs.chunks fs.are_chunks y fs.bytes_are
  where
    breaks : (ds : List Chunk) → All IsChunk ds → (y : List ℕ) → tail ++ left ≡ print_chunks ds ++ (print_chunk_line b.last ++ y) → ⊥
    breaks [] all y same = none.no_last b.last left y b.is_last same
    breaks (d ∷ ds) all y same = none.no_chunk d left (print_chunks ds ++ (print_chunk_line b.last ++ y)) (All-head IsChunk d ds all) (same ∙ append_assoc (print_chunk d) (print_chunks ds) (print_chunk_line b.last ++ y))

trailer_breaks : (chunks : List Chunk) (last : ChunkLine) (tail bytes left body after rest : List ℕ) → InChunks body after → All IsChunk chunks → IsLastLine last → bytes ≡ print_chunks chunks ++ (print_chunk_line last ++ tail) → IsNoTrailer tail → after ++ rest ≡ bytes ++ left → ⊥
trailer_breaks chunks last tail bytes left body after rest b are is_last is none e =
    let y = ending body after b rest in
    let fs = follows chunks (print_chunk_line last ++ tail) bytes left body after rest b are is e in
    let next = next_last chunks last b.last ((print_chunk_line last ++ tail) ++ left) y body (tail ++ left) is_last b.is_last fs (append_assoc (print_chunk_line last) tail left) in
    none b.fields b.end left rest b.are_fields b.few next.0

pub breaks_none : (start place : ℕ) (f : Framing) (bytes left body after rest : List ℕ) → Framed f body after → BreaksAt start place f bytes → after ++ rest ≡ bytes ++ left → ⊥
breaks_none start place f bytes left body after rest framed (inl (chunks, tail, onward, none)) e =
    chunk_breaks chunks tail bytes left body after rest (in_chunks f body after onward.chunked framed) onward.are_chunks onward.bytes_are none e
breaks_none start place f bytes left body after rest framed (inr (chunks, last, tail, chunked, are, is_last, is, place_is, none)) e =
    trailer_breaks chunks last tail bytes left body after rest (in_chunks f body after chunked framed) are is_last is none e

lasts : (f : Framing) (left : List ℕ) (source : Told) → EndsWhole f part.Whole source → (Ends source → left ≡ []) → LastsTo f left
lasts (framing.Counted n) left source ends none = tt
lasts framing.ToEnd left source ends none = none ends
lasts framing.Chunked left source ends none = tt

-- all of a body came
pub whole_came : (f : Framing) (bytes body' left body after rest : List ℕ) (source : Told) → Framed f body' bytes → EndsWhole f part.Whole source → Framed f body after → after ++ rest ≡ bytes ++ left → LastsTo f rest → (Ends source → left ≡ [])
    → (body' ≡ body) × (left ≡ rest)
whole_came f bytes body' left body after rest source came ends framed e alone none = framed_same f bytes body' left body after rest came framed e alone (lasts f left source ends none)

-- what the reading of a body that is there comes to
pub body_reads : (r : Result (Vec ℕ) HttpFault) (start : ℕ) (f : Framing) (bytes left body after rest : List ℕ) (source : Told) (tally : Tally) → Framed f body after → after ++ rest ≡ bytes ++ left → LastsTo f rest → length body ≤ 8388608
    → (Ends source → left ≡ []) → BodyAnswer r start f bytes source tally → ReadsBody r body rest (Some left)
body_reads (Ok v) start f bytes left body after rest source tally framed e alone short none answer =
    let same = whole_came f bytes v.items left body after rest source answer.0 answer.1 framed e alone none in
    (same.0, ap Some same.1)
body_reads (Err (fault.Body place)) start f bytes left body after rest source tally framed e alone short none answer = breaks_none start place f bytes left body after rest framed answer e
body_reads (Err (fault.TooLong n)) start f bytes left body after rest source tally framed e alone short none answer =
    let much = answer.1 in
    let on = (came_after much.part start f much.line bytes much.body left body after rest framed much.came e alone).0 in
    omega (arith, short, much.more, on.announced, ap length on.body_is, length-append much.body on.more)
body_reads (Err (fault.Ended n)) start f bytes left body after rest source tally framed e alone short none answer =
    let cut = answer.0 in
    (came_after cut.part start f cut.line bytes cut.body left body after rest framed cut.came e alone).1 cut.more (none answer.1)
body_reads (Err fault.Idle) start f bytes left body after rest source tally framed e alone short none answer = tt
body_reads (Err fault.ReadFault) start f bytes left body after rest source tally framed e alone short none answer = tt
body_reads (Err fault.Memory) start f bytes left body after rest source tally framed e alone short none answer = tt
body_reads (Err fault.Head) start f bytes left body after rest source tally framed e alone short none answer = answer
body_reads (Err (fault.Status n)) start f bytes left body after rest source tally framed e alone short none answer = answer
body_reads (Err fault.Route) start f bytes left body after rest source tally framed e alone short none answer = answer
body_reads (Err fault.WriteFault) start f bytes left body after rest source tally framed e alone short none answer = answer
