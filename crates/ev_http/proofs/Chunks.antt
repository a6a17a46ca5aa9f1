-- How chunks, what stands between them and trailers go on line by line.
use Rattle.std.proofs.Common.{◌≡◌, ◌≢◌, ℕ, ◌+◌, ◌<◌, ◌≤◌, List, [], ◌∷◌, ◌++◌, length, drop, Some, None, Ok, Err, refl, sym, ap, subst, ◌∙◌, append_assoc, append-nil, length-append, arith, inl, inr}
use Rattle.std.specs.Prelude.{All}
use Rattle.std.specs.List.{flat_map}
use Rattle.std.proofs.Math.Seq.{drop-append_seam}
use Rattle.std.proofs.lemmas.List.Elements.{All-append, All-cons, All-nil, All-head, All-tail}
use Rattle.std.proofs.lemmas.Grind.{flat_map-append}
use Rattle.httparse.specs.Grammar.{LineEnd, print_end, crlf, lf, ChunkLine, print_chunk_line, chunk_size, NeverHasChunkLine}
use Rattle.httparse.proofs.ChunkLemmas.{chunk_line_unique}
use Rattle.ev_http.specs.declared.fault.HttpFault.{HttpFault}
use Rattle.ev_http.specs.declared.fault.HttpFault.TheVariants as fault
use Rattle.ev_http.specs.declared.framing.Framing.{Framing}
use Rattle.ev_http.specs.declared.body.Part.{Part}
use Rattle.ev_http.specs.declared.body.Part.TheVariants as part
use Rattle.ev_http.specs.declared.taking.Tally.{Tally}
use Rattle.zx_outside.specs.Reading.{HasNoFeed}
use Rattle.ev_http.specs.Taking.{Told, Ends, counted, IsLine, Grows, TakesLine}
use Rattle.ev_http.specs.Body.{Chunk, IsChunk, print_chunk, IsSizeLine, print_chunks, contents, IsFieldLine, AreFields, InChunks, AfterChunks, AtSize, AtGap, AtTrailer, Came, IsOpen, IsNoChunk, IsNoTrailer, BreaksAt, TakesPart, SizeAnswer, TrailerAnswer, Framed}
use Rattle.ev_http.proofs.Takings.{no_feed-nil}
use Rattle.ev_http.proofs.Feeds.{same_line, text_short, no_feed-append, no_feed-cons, no_chunk-long, no_chunk-never}
use Rattle.ev_http.proofs.Bodies.{after_more, chunk_goes}

pub line_grown : (old added new : List ℕ) → HasNoFeed old → IsLine added → new ≡ old ++ added → IsLine new
line_grown old added new none is grown = (
  old ++ is.0,
  no_feed-append old is.0 none is.1,
  grown ∙ ap (λ (x : List ℕ). old ++ x) is.2 ∙ sym (append_assoc old is.0 (10 ∷ [])),
)

pub grown_no_feed : (old added new : List ℕ) (limit : ℕ) → HasNoFeed old → Grows old added new limit → HasNoFeed new
grown_no_feed old added new limit none grows = subst HasNoFeed (sym grows.grown) (no_feed-append old added none grows.no_feed)

-- why the taking of a line of a part stopped
pub line_stops : (e : HttpFault) (p : Part) (line added new body : List ℕ) (limit : ℕ) (source : Told) (tally : Tally)
    → ((start : ℕ) (f : Framing) (bytes : List ℕ) → Came start f p line bytes body → Grows line added new limit → Came start f p new (bytes ++ added) body)
    → TakesLine (Err e) line added new limit source tally → TakesPart (Err e) p line body added new body source tally
line_stops fault.Idle p line added new body limit source tally goes got start f bytes came taken = (goes start f bytes came got.0, got.1)
line_stops fault.ReadFault p line added new body limit source tally goes got start f bytes came taken = goes start f bytes came got
line_stops fault.Memory p line added new body limit source tally goes got start f bytes came taken = tt
line_stops fault.Head p line added new body limit source tally goes got start f bytes came taken = absurd got
line_stops (fault.Status n) p line added new body limit source tally goes got start f bytes came taken = absurd got
line_stops fault.Route p line added new body limit source tally goes got start f bytes came taken = absurd got
line_stops (fault.Body n) p line added new body limit source tally goes got start f bytes came taken = absurd got
line_stops (fault.TooLong n) p line added new body limit source tally goes got start f bytes came taken = absurd got
line_stops (fault.Ended n) p line added new body limit source tally goes got start f bytes came taken = absurd got
line_stops fault.WriteFault p line added new body limit source tally goes got start f bytes came taken = absurd got

-- ---- the line before a chunk

pub size_grows : (place limit : ℕ) (line added new body : List ℕ) (start : ℕ) (f : Framing) (bytes : List ℕ) → AtSize start place f line bytes body → Grows line added new limit → AtSize start place f new (bytes ++ added) body
size_grows place limit line added new body start f bytes at grows = record {
  chunks = at.chunks;
  so_far = after_more _ _ _ _ _ _ _ _ at.so_far (sym grows.grown);
  body_is = at.body_is;
  no_feed = grown_no_feed line added new limit at.no_feed grows;
}

size_next : (p : Part) (place next start : ℕ) (f : Framing) (line added new bytes body : List ℕ) → AtSize start place f line bytes body → new ≡ line ++ added → IsLine added → length new ≤ 1026
    → (IsLine new → SizeAnswer (Some p) place next new) → next ≡ counted (start + length (bytes ++ added)) → Came start f p [] (bytes ++ added) body
size_next (part.Content q left) place next start f line added new bytes body at grown is short answer counts =
    let says = answer (line_grown line added new at.no_feed is grown) in record {
      chunks = at.chunks;
      size = says.0;
      is_size = record { is_line = says.1; short = subst (λ (x : List ℕ). length x ≤ 1026) says.2 short };
      content = [];
      so_far = subst (λ (x : ℕ). AfterChunks start x f at.chunks (print_chunk_line says.0 ++ []) (bytes ++ added)) (sym says.5)
          (after_more _ _ _ _ _ _ _ _ at.so_far (sym grown ∙ says.2 ∙ sym (append-nil (print_chunk_line says.0))));
      body_is = at.body_is ∙ sym (append-nil (contents at.chunks));
      left_is = omega (arith, says.3);
      some = says.4;
      empty = refl;
    }
size_next (part.Trailer q fields) place next start f line added new bytes body at grown is short answer counts =
    let says = answer (line_grown line added new at.no_feed is grown) in
    let bytes_are = (after_more _ _ _ _ _ _ _ _ at.so_far (sym grown ∙ says.2)).bytes_are in record {
      chunks = at.chunks;
      last = says.0;
      is_last = record { line = record { is_line = says.1; short = subst (λ (x : List ℕ). length x ≤ 1026) says.2 short }; none = says.3 };
      text = [];
      are_fields = ([], All-nil IsFieldLine, refl);
      few = omega arith;
      cut = [];
      no_feed = no_feed-nil;
      line_is = refl;
      fields_is = says.4;
      chunked = at.so_far.chunked;
      are_chunks = at.so_far.are_chunks;
      bytes_are = bytes_are ∙ ap (λ (x : List ℕ). print_chunks at.chunks ++ x) (sym (append-nil (print_chunk_line says.0)));
      place_is = says.5 ∙ counts ∙ ap (λ (x : List ℕ). counted (start + length x)) bytes_are;
      body_is = at.body_is;
    }
size_next (part.Counted left) place next start f line added new bytes body at grown is short answer counts = absurd (answer (line_grown line added new at.no_feed is grown))
size_next part.ToEnd place next start f line added new bytes body at grown is short answer counts = absurd (answer (line_grown line added new at.no_feed is grown))
size_next (part.Size q) place next start f line added new bytes body at grown is short answer counts = absurd (answer (line_grown line added new at.no_feed is grown))
size_next (part.Gap q) place next start f line added new bytes body at grown is short answer counts = absurd (answer (line_grown line added new at.no_feed is grown))
size_next part.Whole place next start f line added new bytes body at grown is short answer counts = absurd (answer (line_grown line added new at.no_feed is grown))

pub size_whole : (p : Part) (place : ℕ) (line added new body : List ℕ) (limit : ℕ) (source : Told) (tally : Tally) → IsLine added × (new ≡ line ++ added) × (length new ≤ 1026)
    → (IsLine new → SizeAnswer (Some p) place tally.taken new) → TakesPart (Ok p) (part.Size place) line body added [] body source tally
size_whole p place line added new body limit source tally got answer start f bytes came taken = (
  size_next p place tally.taken start f line added new bytes body came got.1 got.0 got.2 answer taken,
  chunk_goes f p source came.so_far.chunked,
)

breaks_chunk : (start place : ℕ) (f : Framing) (chunks : List Chunk) (tail bytes : List ℕ) → AfterChunks start place f chunks tail bytes → IsNoChunk tail → BreaksAt start place f bytes
breaks_chunk start place f chunks tail bytes so_far none = inl (chunks, tail, so_far, none)

pub size_broken : (place n : ℕ) (line added new body : List ℕ) (source : Told) (tally : Tally) → new ≡ line ++ added → n ≡ place → ((start : ℕ) (f : Framing) (bytes : List ℕ) → AtSize start place f line bytes body → IsNoChunk new)
    → (last : List ℕ) → TakesPart (Err (fault.Body n)) (part.Size place) line body added last body source tally
size_broken place n line added new body source tally grown same none last start f bytes came taken =
    subst (λ (x : ℕ). BreaksAt start x f (bytes ++ added)) (sym same)
    (breaks_chunk start place f came.chunks new (bytes ++ added) (after_more _ _ _ _ _ _ _ _ came.so_far (sym grown)) (none start f bytes came))

pub size_fails : (place : ℕ) (line added new body : List ℕ) (source : Told) (tally : Tally) → IsLine added × (new ≡ line ++ added) × (length new ≤ 1026)
    → (IsLine new → IsNoChunk new) → TakesPart (Err (fault.Body place)) (part.Size place) line body added new body source tally
size_fails place line added new body source tally got answer =
    size_broken place place line added new body source tally got.1 refl (λ start f bytes at. answer (line_grown line added new at.no_feed got.0 got.1)) new

pub size_full : (place limit : ℕ) (line added new body : List ℕ) (source : Told) (tally : Tally) → Grows line added new limit → 1026 ≤ length new → TakesPart (Err (fault.Body place)) (part.Size place) line body added new body source tally
size_full place limit line added new body source tally grows long =
    size_broken place place line added new body source tally grows.grown refl (λ start f bytes at. no_chunk-long new (grown_no_feed line added new limit at.no_feed grows) long) new

pub size_cut : (place limit : ℕ) (line added new body : List ℕ) (source : Told) (tally : Tally) → Grows line added new limit → NeverHasChunkLine new → TakesPart (Err (fault.Body place)) (part.Size place) line body added new body source tally
size_cut place limit line added new body source tally grows never =
    size_broken place place line added new body source tally grows.grown refl (λ start f bytes at. no_chunk-never new never) new

pub line_ends : (n : ℕ) (p : Part) (line added new body : List ℕ) (limit : ℕ) (source : Told) (tally : Tally)
    → ((start : ℕ) (f : Framing) (bytes : List ℕ) → Came start f p line bytes body → Grows line added new limit → Came start f p new (bytes ++ added) body)
    → Grows line added new limit → Ends source → n ≡ tally.taken → IsOpen p new → TakesPart (Err (fault.Ended n)) p line body added new body source tally
line_ends n p line added new body limit source tally goes grows ends same more start f bytes came taken = (goes start f bytes came grows, more, ends, same)

-- ---- after a chunk

pub same_front : (a b x y : List ℕ) → length a ≡ length b → a ++ x ≡ b ++ y → x ≡ y
same_front a b x y same e = sym (drop-append_seam a x) ∙ ap (λ n. drop n (a ++ x)) same ∙ ap (drop (length b)) e ∙ drop-append_seam b y

-- a chunk whose content is not followed by CR LF
no_chunk-gap : (size : ChunkLine) (content line : List ℕ) → IsSizeLine size → length content ≡ chunk_size size → 0 < chunk_size size → ((more rest : List ℕ) → line ++ more ≡ 13 ∷ 10 ∷ rest → ⊥)
    → IsNoChunk (print_chunk_line size ++ (content ++ line))
no_chunk-gap size content line is has some none = record {
  no_chunk = λ c more rest chunk e.
      let tail = (c.content ++ 13 ∷ 10 ∷ []) ++ rest in
      let whole = e ∙ append_assoc (print_chunk_line c.line) (c.content ++ 13 ∷ 10 ∷ []) rest in
      let same = chunk_line_unique ((print_chunk_line size ++ (content ++ line)) ++ more) size c.line ((content ++ line) ++ more) tail (is.is_line, append_assoc (print_chunk_line size) (content ++ line) more) (chunk.line.is_line, whole) in
      let lengths : length content ≡ length c.content = has ∙ ap chunk_size same.0 ∙ sym chunk.size in
      none more rest (same_front content c.content (line ++ more) (13 ∷ 10 ∷ rest) lengths (sym (append_assoc content line more) ∙ same.1 ∙ append_assoc c.content (13 ∷ 10 ∷ []) rest));
  no_last = λ l more rest last e.
      let same = chunk_line_unique ((print_chunk_line size ++ (content ++ line)) ++ more) size l ((content ++ line) ++ more) rest (is.is_line, append_assoc (print_chunk_line size) (content ++ line) more) (last.line.is_line, e) in
      absurd (omega (arith, some, ap chunk_size same.0, last.none));
}

gap_joined : (size : ChunkLine) (content line added new : List ℕ) → new ≡ line ++ added → (print_chunk_line size ++ (content ++ line)) ++ added ≡ print_chunk_line size ++ (content ++ new)
gap_joined size content line added new grown = append_assoc (print_chunk_line size) (content ++ line) added ∙ ap (λ (x : List ℕ). print_chunk_line size ++ x) (append_assoc content line added ∙ ap (λ (x : List ℕ). content ++ x) (sym grown))

pub gap_grows : (place limit : ℕ) (line added new body : List ℕ) (start : ℕ) (f : Framing) (bytes : List ℕ) → AtGap start place f line bytes body → Grows line added new limit → AtGap start place f new (bytes ++ added) body
gap_grows place limit line added new body start f bytes at grows = record {
  chunks = at.chunks;
  size = at.size;
  is_size = at.is_size;
  content = at.content;
  so_far = after_more _ _ _ _ _ _ _ _ at.so_far (gap_joined at.size at.content line added new grows.grown);
  body_is = at.body_is;
  size_is = at.size_is;
  some = at.some;
  no_feed = grown_no_feed line added new limit at.no_feed grows;
}

gap_broken : (place : ℕ) (line added new body : List ℕ) (source : Told) (tally : Tally) → new ≡ line ++ added → (HasNoFeed line → (more rest : List ℕ) → new ++ more ≡ 13 ∷ 10 ∷ rest → ⊥)
    → TakesPart (Err (fault.Body place)) (part.Gap place) line body added new body source tally
gap_broken place line added new body source tally grown none start f bytes came taken =
    breaks_chunk start place f came.chunks (print_chunk_line came.size ++ (came.content ++ new)) (bytes ++ added)
    (after_more _ _ _ _ _ _ _ _ came.so_far (gap_joined came.size came.content line added new grown)) (no_chunk-gap came.size came.content new came.is_size came.size_is came.some (none came.no_feed))

pub gap_other : (place limit : ℕ) (line added new body : List ℕ) (source : Told) (tally : Tally) → IsLine added × (new ≡ line ++ added) × (length new ≤ limit) → new ≢ 13 ∷ 10 ∷ []
    → TakesPart (Err (fault.Body place)) (part.Gap place) line body added new body source tally
gap_other place limit line added new body source tally got other =
    gap_broken place line added new body source tally got.1 (λ no_feed more rest e.
    let is = line_grown line added new no_feed got.0 got.1 in
    let text = same_line is.0 (13 ∷ []) more rest is.1 (no_feed-cons 13 [] (λ x. cc) no_feed-nil) (ap (λ (x : List ℕ). x ++ more) (sym is.2) ∙ e) in
    other (is.2 ∙ ap (λ (x : List ℕ). x ++ 10 ∷ []) text))

pub gap_full : (place limit : ℕ) (line added new body : List ℕ) (source : Told) (tally : Tally) → Grows line added new limit → 2 ≤ length new
    → TakesPart (Err (fault.Body place)) (part.Gap place) line body added new body source tally
gap_full place limit line added new body source tally grows long =
    gap_broken place line added new body source tally grows.grown (λ no_feed more rest e.
    let le = text_short new more (13 ∷ []) rest (grown_no_feed line added new limit no_feed grows) e in
    omega (arith, le, long))

pub gap_cut : (place limit : ℕ) (line added new body : List ℕ) (source : Told) (tally : Tally) → Grows line added new limit → (new ≢ []) × (new ≢ 13 ∷ [])
    → TakesPart (Err (fault.Body place)) (part.Gap place) line body added new body source tally
gap_cut place limit line added new body source tally grows other =
    gap_broken place line added new body source tally grows.grown (λ no_feed more rest e. no_front new more rest (grown_no_feed line added new limit no_feed grows) other e)
  where
    no_front : (new more rest : List ℕ) → HasNoFeed new → (new ≢ []) × (new ≢ 13 ∷ []) → new ++ more ≡ 13 ∷ 10 ∷ rest → ⊥
    no_front [] more rest none other e = other.0 refl
    no_front (x ∷ []) more rest none other e = other.1 cc
    no_front (x ∷ y ∷ new) more rest none other e = All-head (λ b. b ≢ 10) y new (All-tail (λ b. b ≢ 10) x (y ∷ new) none) cc

pub gap_whole : (place limit : ℕ) (line added new body : List ℕ) (source : Told) (tally : Tally) → IsLine added × (new ≡ line ++ added) × (length new ≤ limit) → new ≡ 13 ∷ 10 ∷ []
    → TakesPart (Ok (part.Size tally.taken)) (part.Gap place) line body added [] body source tally
gap_whole place limit line added new body source tally got same start f bytes came taken =
    let c : Chunk = record { line = came.size; content = came.content } in
    let more = after_more _ _ _ _ _ _ _ _ came.so_far (gap_joined came.size came.content line added (13 ∷ 10 ∷ []) (sym same ∙ got.1)) in
    let chunks : List Chunk = came.chunks ++ c ∷ [] in
    let printed : print_chunks chunks ≡ print_chunks came.chunks ++ print_chunk c = flat_map-append print_chunk came.chunks (c ∷ []) ∙ ap (λ (x : List ℕ). print_chunks came.chunks ++ x) (append-nil (print_chunk c)) in
    let held : contents chunks ≡ contents came.chunks ++ c.content = flat_map-append (λ (x : Chunk). x.content) came.chunks (c ∷ []) ∙ ap (λ (x : List ℕ). contents came.chunks ++ x) (append-nil c.content) in
    let bytes_are : bytes ++ added ≡ print_chunks chunks ++ [] = more.bytes_are ∙ sym printed ∙ sym (append-nil (print_chunks chunks)) in (
      record {
        chunks = chunks;
        so_far = record {
          chunked = came.so_far.chunked;
          are_chunks = All-append IsChunk came.chunks (c ∷ []) came.so_far.are_chunks (All-cons IsChunk c [] (record { line = came.is_size; size = came.size_is; some = came.some }) (All-nil IsChunk));
          bytes_are = bytes_are;
          place_is = taken ∙ ap (λ (x : List ℕ). counted (start + length x)) (bytes_are ∙ append-nil (print_chunks chunks));
        };
        body_is = came.body_is ∙ sym held;
        no_feed = no_feed-nil;
      },
      chunk_goes f (part.Size tally.taken) source came.so_far.chunked,
    )

-- ---- trailers

pub end_text : (end : LineEnd) → (text : List ℕ) × HasNoFeed text × (print_end end ≡ text ++ 10 ∷ []) × (length text ≤ 1)
end_text crlf = (13 ∷ [], no_feed-cons 13 [] (λ e. cc) no_feed-nil, refl, omega arith)
end_text lf = ([], no_feed-nil, refl, omega arith)

pub not_end : (line : List ℕ) (end : LineEnd) → IsFieldLine line → line ≡ print_end end → ⊥
not_end line crlf is e = is.not_crlf e
not_end line lf is e = is.not_lf e

pub first_line : (l m x y : List ℕ) → IsLine l → IsLine m → l ++ x ≡ m ++ y → l ≡ m
first_line l m x y a b e =
    a.2 ∙ ap (λ (t : List ℕ). t ++ 10 ∷ []) (same_line a.0 b.0 x y a.1 b.1 (ap (λ (t : List ℕ). t ++ x) (sym a.2) ∙ e ∙ ap (λ (t : List ℕ). t ++ y) b.2)) ∙ sym b.2

-- field lines in front are the first of the field lines of a trailer
pub peel : (ls ms : List (List ℕ)) (end : LineEnd) (x rest : List ℕ) → All IsFieldLine ls → All IsFieldLine ms
    → flat_map (λ (line : List ℕ). line) ls ++ x ≡ flat_map (λ (line : List ℕ). line) ms ++ (print_end end ++ rest)
    → (ns : List (List ℕ)) × All IsFieldLine ns × (length (flat_map (λ (line : List ℕ). line) ls) + length (flat_map (λ (line : List ℕ). line) ns) ≡ length (flat_map (λ (line : List ℕ). line) ms))
    × (x ≡ flat_map (λ (line : List ℕ). line) ns ++ (print_end end ++ rest))
peel [] ms end x rest a b e = (ms, b, omega arith, e)
peel (l ∷ ls) [] end x rest a b e =
    let is = All-head IsFieldLine l ls a in
    let t = end_text end in
    absurd (not_end l end is (first_line l (print_end end) (flat_map (λ (line : List ℕ). line) ls ++ x) rest is.is_line (t.0, t.1, t.2) (sym (append_assoc l (flat_map (λ (line : List ℕ). line) ls) x) ∙ e)))
peel (l ∷ ls) (m ∷ ms) end x rest a b e =
    let is = All-head IsFieldLine l ls a in
    let has = All-head IsFieldLine m ms b in
    let whole : l ++ (flat_map (λ (line : List ℕ). line) ls ++ x) ≡ m ++ (flat_map (λ (line : List ℕ). line) ms ++ (print_end end ++ rest)) =
    sym (append_assoc l (flat_map (λ (line : List ℕ). line) ls) x) ∙ e ∙ append_assoc m (flat_map (λ (line : List ℕ). line) ms) (print_end end ++ rest) in
    let same = first_line l m _ _ is.is_line has.is_line whole in
    let more = same_front l m _ _ (ap length same) whole in
    let later = peel ls ms end x rest (All-tail IsFieldLine l ls a) (All-tail IsFieldLine m ms b) more in (
      later.0,
      later.1,
      omega (arith, ap length same, later.2, length-append l (flat_map (λ (line : List ℕ). line) ls), length-append m (flat_map (λ (line : List ℕ). line) ms)),
      later.3,
    )

-- field lines that are too long together
long_fields : (text : List ℕ) → AreFields text → 16384 < length text → IsNoTrailer text
long_fields text are long fields end more rest has few e =
    let got = peel are.0 has.0 end more rest are.1 has.1 (ap (λ (x : List ℕ). x ++ more) (sym are.2) ∙ e ∙ ap (λ (x : List ℕ). x ++ (print_end end ++ rest)) has.2) in
    omega (arith, got.2, long, few, ap length are.2, ap length has.2)

-- bytes of a line do not end a trailer
cut_short : (ns : List (List ℕ)) (end : LineEnd) (cut more rest : List ℕ) → All IsFieldLine ns → HasNoFeed cut → cut ++ more ≡ flat_map (λ (line : List ℕ). line) ns ++ (print_end end ++ rest) → length cut ≤ length (flat_map (λ (line : List ℕ). line) ns) + 1
cut_short [] end cut more rest all none e =
    let t = end_text end in
    let le : length cut ≤ length t.0 = text_short cut more t.0 rest none (e ∙ ap (λ (x : List ℕ). x ++ rest) t.2) in
    omega (arith, le, t.3)
cut_short (m ∷ ms) end cut more rest all none e =
    let is = (All-head IsFieldLine m ms all).is_line in
    let le : length cut ≤ length is.0 = text_short cut more is.0 (flat_map (λ (line : List ℕ). line) ms ++ (print_end end ++ rest)) none
    (e ∙ append_assoc m (flat_map (λ (line : List ℕ). line) ms) (print_end end ++ rest) ∙ ap (λ (x : List ℕ). x ++ (flat_map (λ (line : List ℕ). line) ms ++ (print_end end ++ rest))) is.2) in
    omega (arith, le, ap length is.2, length-append is.0 (10 ∷ []), length-append m (flat_map (λ (line : List ℕ). line) ms))

long_trailer : (text cut : List ℕ) → AreFields text → HasNoFeed cut → 16386 ≤ length (text ++ cut) → IsNoTrailer (text ++ cut)
long_trailer text cut are none long fields end more rest has few e =
    let got = peel are.0 has.0 end (cut ++ more) rest are.1 has.1 (ap (λ (x : List ℕ). x ++ (cut ++ more)) (sym are.2) ∙ sym (append_assoc text cut more) ∙ e ∙ ap (λ (x : List ℕ). x ++ (print_end end ++ rest)) has.2) in
    let le = cut_short got.0 end cut more rest got.1 none got.3 in
    omega (arith, le, got.2, long, few, ap length are.2, ap length has.2, length-append text cut)

trailer_bytes : (chunks : List Chunk) (last : ChunkLine) (line added new bytes : List ℕ) → bytes ≡ print_chunks chunks ++ (print_chunk_line last ++ line) → new ≡ line ++ added → bytes ++ added ≡ print_chunks chunks ++ (print_chunk_line last ++ new)
trailer_bytes chunks last line added new bytes are grown =
    ap (λ (x : List ℕ). x ++ added) are ∙ append_assoc (print_chunks chunks) (print_chunk_line last ++ line) added
    ∙ ap (λ (x : List ℕ). print_chunks chunks ++ x) (append_assoc (print_chunk_line last) line added ∙ ap (λ (x : List ℕ). print_chunk_line last ++ x) (sym grown))

pub trailer_grows : (place fields limit : ℕ) (line added new body : List ℕ) (start : ℕ) (f : Framing) (bytes : List ℕ) → AtTrailer start place fields f line bytes body → Grows line added new limit → AtTrailer start place fields f new (bytes ++ added) body
trailer_grows place fields limit line added new body start f bytes at grows = record {
  chunks = at.chunks;
  last = at.last;
  is_last = at.is_last;
  text = at.text;
  are_fields = at.are_fields;
  few = at.few;
  cut = at.cut ++ added;
  no_feed = no_feed-append at.cut added at.no_feed grows.no_feed;
  line_is = grows.grown ∙ ap (λ (x : List ℕ). x ++ added) at.line_is ∙ append_assoc at.text at.cut added;
  fields_is = at.fields_is;
  chunked = at.chunked;
  are_chunks = at.are_chunks;
  bytes_are = trailer_bytes at.chunks at.last line added new bytes at.bytes_are grows.grown;
  place_is = at.place_is;
  body_is = at.body_is;
}

trailer_broken : (place fields : ℕ) (line added new body : List ℕ) (source : Told) (tally : Tally) → new ≡ line ++ added → ((start : ℕ) (f : Framing) (bytes : List ℕ) → AtTrailer start place fields f line bytes body → IsNoTrailer new)
    → TakesPart (Err (fault.Body place)) (part.Trailer place fields) line body added new body source tally
trailer_broken place fields line added new body source tally grown none start f bytes came taken =
    inr (came.chunks, came.last, new, came.chunked, came.are_chunks, came.is_last, trailer_bytes came.chunks came.last line added new bytes came.bytes_are grown, came.place_is, none start f bytes came)

pub trailer_full : (place fields limit : ℕ) (line added new body : List ℕ) (source : Told) (tally : Tally) → Grows line added new limit → 16386 ≤ length new
    → TakesPart (Err (fault.Body place)) (part.Trailer place fields) line body added new body source tally
trailer_full place fields limit line added new body source tally grows long =
    trailer_broken place fields line added new body source tally grows.grown (λ start f bytes at.
    let same : new ≡ at.text ++ (at.cut ++ added) = grows.grown ∙ ap (λ (x : List ℕ). x ++ added) at.line_is ∙ append_assoc at.text at.cut added in
    subst IsNoTrailer (sym same) (long_trailer at.text (at.cut ++ added) at.are_fields (no_feed-append at.cut added at.no_feed grows.no_feed) (subst (λ (x : List ℕ). 16386 ≤ length x) same long)))

-- the last line of a trailer, after its field lines
last_line : (start place fields : ℕ) (f : Framing) (line added new bytes body : List ℕ) → AtTrailer start place fields f line bytes body → new ≡ line ++ added → IsLine added
    → (text last : List ℕ) × AreFields text × (length text ≤ 16384) × IsLine last × (new ≡ text ++ last) × (fields ≡ length text) × (drop fields new ≡ last)
last_line start place fields f line added new bytes body at grown is =
    let last = at.cut ++ added in
    let same : new ≡ at.text ++ last = grown ∙ ap (λ (x : List ℕ). x ++ added) at.line_is ∙ append_assoc at.text at.cut added in (
      at.text,
      last,
      at.are_fields,
      at.few,
      line_grown at.cut added last at.no_feed is refl,
      same,
      at.fields_is,
      ap (λ n. drop n new) at.fields_is ∙ ap (drop (length at.text)) same ∙ drop-append_seam at.text last,
    )

fields_more : (text last new : List ℕ) → AreFields text → IsLine last → new ≡ text ++ last → last ≢ 10 ∷ [] → last ≢ 13 ∷ 10 ∷ [] → AreFields new
fields_more text last new are is same lf_not crlf_not = (
  are.0 ++ last ∷ [],
  All-append IsFieldLine are.0 (last ∷ []) are.1 (All-cons IsFieldLine last [] (record { is_line = is; not_lf = lf_not; not_crlf = crlf_not }) (All-nil IsFieldLine)),
  same ∙ ap (λ (x : List ℕ). x ++ last) are.2 ∙ ap (λ (x : List ℕ). flat_map (λ (line : List ℕ). line) are.0 ++ x) (sym (append-nil last)) ∙ sym (flat_map-append (λ (line : List ℕ). line) are.0 (last ∷ [])),
)

inside : (start place fields : ℕ) (f : Framing) (line added new bytes body : List ℕ) → AtTrailer start place fields f line bytes body → new ≡ line ++ added → IsLine added → fields < length new
inside start place fields f line added new bytes body at grown is =
    omega (arith, at.fields_is, ap length grown, length-append line added, ap length at.line_is, length-append at.text at.cut, ap length is.2, length-append is.0 (10 ∷ []))

trailer_goes : (p : Part) (place fields start : ℕ) (f : Framing) (line added new bytes body : List ℕ) → AtTrailer start place fields f line bytes body → IsLine added → new ≡ line ++ added
    → TrailerAnswer (Some p) place fields new → Came start f p new (bytes ++ added) body
trailer_goes part.Whole place fields start f line added new bytes body at is grown answer =
    let last = last_line start place fields f line added new bytes body at grown is in
    let end : last.1 ≡ print_end answer.0 = sym last.7 ∙ answer.1 in
    let held : InChunks body (bytes ++ added) = record {
      chunks = at.chunks;
      are_chunks = at.are_chunks;
      last = at.last;
      is_last = at.is_last;
      fields = last.0;
      are_fields = last.2;
      few = last.3;
      end = answer.0;
      body_is = at.body_is;
      bytes_are = trailer_bytes at.chunks at.last line added new bytes at.bytes_are grown ∙ ap (λ (x : List ℕ). print_chunks at.chunks ++ (print_chunk_line at.last ++ x)) (last.5 ∙ ap (λ (x : List ℕ). last.0 ++ x) end);
    } in
    subst (λ (x : Framing). Framed x body (bytes ++ added)) (sym at.chunked) held
trailer_goes (part.Trailer q n) place fields start f line added new bytes body at is grown answer =
    let last = last_line start place fields f line added new bytes body at grown is in record {
      chunks = at.chunks;
      last = at.last;
      is_last = at.is_last;
      text = new;
      are_fields = fields_more last.0 last.1 new last.2 last.4 last.5 (λ e. answer.3 (last.7 ∙ e)) (λ e. answer.4 (last.7 ∙ e));
      few = answer.2;
      cut = [];
      no_feed = no_feed-nil;
      line_is = sym (append-nil new);
      fields_is = answer.1;
      chunked = at.chunked;
      are_chunks = at.are_chunks;
      bytes_are = trailer_bytes at.chunks at.last line added new bytes at.bytes_are grown;
      place_is = answer.0 ∙ at.place_is;
      body_is = at.body_is;
    }
trailer_goes (part.Counted left) place fields start f line added new bytes body at is grown answer = absurd answer
trailer_goes part.ToEnd place fields start f line added new bytes body at is grown answer = absurd answer
trailer_goes (part.Size q) place fields start f line added new bytes body at is grown answer = absurd answer
trailer_goes (part.Content q left) place fields start f line added new bytes body at is grown answer = absurd answer
trailer_goes (part.Gap q) place fields start f line added new bytes body at is grown answer = absurd answer

pub trailer_next : (p : Part) (place fields limit : ℕ) (line added new body : List ℕ) (source : Told) (tally : Tally) → IsLine added × (new ≡ line ++ added) × (length new ≤ limit)
    → (fields < length new → TrailerAnswer (Some p) place fields new) → TakesPart (Ok p) (part.Trailer place fields) line body added new body source tally
trailer_next p place fields limit line added new body source tally got answer start f bytes came taken = (
  trailer_goes p place fields start f line added new bytes body came got.0 got.1 (answer (inside start place fields f line added new bytes body came got.1 got.0)),
  chunk_goes f p source came.chunked,
)

pub trailer_fails : (place fields limit : ℕ) (line added new body : List ℕ) (source : Told) (tally : Tally) → IsLine added × (new ≡ line ++ added) × (length new ≤ limit)
    → (fields < length new → TrailerAnswer None place fields new) → TakesPart (Err (fault.Body place)) (part.Trailer place fields) line body added new body source tally
trailer_fails place fields limit line added new body source tally got answer =
    trailer_broken place fields line added new body source tally got.1 (λ start f bytes at.
    let says = answer (inside start place fields f line added new bytes body at got.1 got.0) in
    let last = last_line start place fields f line added new bytes body at got.1 got.0 in
    long_fields new (fields_more last.0 last.1 new last.2 last.4 last.5 (λ e. says.1 (last.7 ∙ e)) (λ e. says.2 (last.7 ∙ e))) says.0)
