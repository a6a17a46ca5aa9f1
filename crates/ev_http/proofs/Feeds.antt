-- Lines end with their first line feed, and so do the lines before chunks.
use Rattle.std.proofs.Common.{◌≡◌, ◌≢◌, ℕ, ◌≤◌, Bool, true, false, List, [], ◌∷◌, ◌++◌, length, refl, sym, ap, ◌∙◌, append_assoc, append-nil, length-append, Option, Some, None, arith}
use Rattle.std.proofs.lemmas.List.Elements.{All-weaker, All-append, All-cons, All-nil, All-head, All-tail}
use Rattle.httparse.specs.Grammar.{AllPass, is_ows, is_extension_byte, ChunkLine, IsChunkLine, IsExtension, print_chunk_line, print_extension, chunk_size, HasNoChunkLine, NeverHasChunkLine, MayBecomeChunkLine}
use Rattle.httparse.specs.Spans.{IsChunkLineAt}
use Rattle.std.specs.Char.{is_ascii_hexdigit}
use Rattle.zx_outside.specs.Reading.{HasNoFeed}
use Rattle.ev_http.specs.Taking.{IsLine}
use Rattle.ev_http.specs.Body.{IsSizeLine, IsNoChunk}

-- a line feed after bytes without one ends the line
pub line_once : (text front rest : List ℕ) → HasNoFeed text → text ++ 10 ∷ [] ≡ (front ++ 10 ∷ []) ++ rest → rest ≡ []
line_once [] [] rest none e = cc
line_once [] (c ∷ front) rest none e = absurd (omega (arith, ap length e, length-append (front ++ 10 ∷ []) rest, length-append front (10 ∷ [])))
line_once (b ∷ text) [] rest none e = absurd (All-head (λ x. x ≢ 10) b text none cc)
line_once (b ∷ text) (c ∷ front) rest none e = line_once text front rest (All-tail (λ x. x ≢ 10) b text none) cc

-- bytes without a line feed end in front of the first one
pub text_short : (text more front rest : List ℕ) → HasNoFeed text → text ++ more ≡ (front ++ 10 ∷ []) ++ rest → length text ≤ length front
text_short [] more front rest none e = omega arith
text_short (b ∷ text) more [] rest none e = absurd (All-head (λ x. x ≢ 10) b text none cc)
text_short (b ∷ text) more (c ∷ front) rest none e =
    let le : length text ≤ length front = text_short text more front rest (All-tail (λ x. x ≢ 10) b text none) cc in
    omega (arith, le)

pub same_line : (text front more rest : List ℕ) → HasNoFeed text → HasNoFeed front → (text ++ 10 ∷ []) ++ more ≡ (front ++ 10 ∷ []) ++ rest → text ≡ front
same_line [] [] more rest none clear e = refl
same_line [] (c ∷ front) more rest none clear e = absurd (All-head (λ x. x ≢ 10) c front clear cc)
same_line (b ∷ text) [] more rest none clear e = absurd (All-head (λ x. x ≢ 10) b text none cc)
same_line (b ∷ text) (c ∷ front) more rest none clear e =
    let later : text ≡ front = same_line text front more rest (All-tail (λ x. x ≢ 10) b text none) (All-tail (λ x. x ≢ 10) c front clear) cc in
    let first : b ≡ c = cc in
    cc

-- bytes that pass a test which a line feed does not
pub pass_no_feed : (test : ℕ → Bool) → test 10 ≡ false → (bytes : List ℕ) → AllPass test bytes → HasNoFeed bytes
pass_no_feed test fails bytes pass = All-weaker (λ x. test x ≡ true) (λ x. x ≢ 10) (λ x t e. let f : test x ≡ false = ap test e ∙ fails in cc) bytes pass

pub no_feed-append : (a b : List ℕ) → HasNoFeed a → HasNoFeed b → HasNoFeed (a ++ b)
no_feed-append a b = All-append (λ x. x ≢ 10) a b

pub no_feed-cons : (b : ℕ) (bytes : List ℕ) → b ≢ 10 → HasNoFeed bytes → HasNoFeed (b ∷ bytes)
no_feed-cons b bytes = All-cons (λ x. x ≢ 10) b bytes

extension_no_feed : (e : Option (List ℕ)) → IsExtension e → HasNoFeed (print_extension e)
extension_no_feed None is = All-nil (λ x. x ≢ 10)
extension_no_feed (Some text) is = no_feed-cons 59 text (λ e. cc) (pass_no_feed is_extension_byte refl text is)

abbrev pub size_text : ChunkLine → List ℕ
size_text l = (l.digits ++ l.pad ++ print_extension l.extension) ++ 13 ∷ []

pub size_line : (l : ChunkLine) → print_chunk_line l ≡ size_text l ++ 10 ∷ []
unfolding print_chunk_line
size_line l = sym (append_assoc (l.digits ++ l.pad ++ print_extension l.extension) (13 ∷ []) (10 ∷ []))

pub size_no_feed : (l : ChunkLine) → IsChunkLine l → HasNoFeed (size_text l)
size_no_feed l is =
    no_feed-append (l.digits ++ l.pad ++ print_extension l.extension) (13 ∷ [])
    (no_feed-append (l.digits ++ l.pad) (print_extension l.extension)
    (no_feed-append l.digits l.pad (pass_no_feed is_ascii_hexdigit refl l.digits is.digits.2) (pass_no_feed is_ows refl l.pad is.pad)) (extension_no_feed l.extension is.extension))
    (no_feed-cons 13 [] (λ e. cc) (All-nil (λ x. x ≢ 10)))

-- a whole line that begins with the line before a chunk is that line
pub size_is_all : (line rest : List ℕ) (l : ChunkLine) → IsLine line → line ≡ print_chunk_line l ++ rest → line ≡ print_chunk_line l
size_is_all line rest l is e =
    let none : rest ≡ [] = line_once is.0 (size_text l) rest is.1 (sym is.2 ∙ e ∙ ap (λ (x : List ℕ). x ++ rest) (size_line l)) in
    e ∙ ap (λ (x : List ℕ). print_chunk_line l ++ x) none ∙ append-nil (print_chunk_line l)

-- a whole line that is no line before a chunk never becomes one
pub never_size : (line : List ℕ) → IsLine line → HasNoChunkLine line → NeverHasChunkLine line
never_size line is none more l rest reads =
    let same : is.0 ≡ size_text l = same_line is.0 (size_text l) more rest is.1 (size_no_feed l reads.0) (ap (λ (x : List ℕ). x ++ more) (sym is.2) ∙ reads.1 ∙ ap (λ (x : List ℕ). x ++ rest) (size_line l)) in
    let whole : line ≡ print_chunk_line l = is.2 ∙ ap (λ (x : List ℕ). x ++ 10 ∷ []) same ∙ sym (size_line l) in
    none l [] (reads.0, whole ∙ sym (append-nil (print_chunk_line l)))

pub no_chunk-never : (bytes : List ℕ) → NeverHasChunkLine bytes → IsNoChunk bytes
no_chunk-never bytes never = record {
  no_chunk = λ c more rest is e. never more c.line ((c.content ++ 13 ∷ 10 ∷ []) ++ rest) (is.line.is_line, e ∙ append_assoc (print_chunk_line c.line) (c.content ++ 13 ∷ 10 ∷ []) rest);
  no_last = λ l more rest is e. never more l rest (is.line.is_line, e);
}

long_size : (bytes more rest : List ℕ) (l : ChunkLine) → HasNoFeed bytes → 1026 ≤ length bytes → IsSizeLine l → bytes ++ more ≡ print_chunk_line l ++ rest → ⊥
long_size bytes more rest l none long is e =
    let le : length bytes ≤ length (size_text l) = text_short bytes more (size_text l) rest none (e ∙ ap (λ (x : List ℕ). x ++ rest) (size_line l)) in
    omega (arith, le, long, is.short, ap length (size_line l), length-append (size_text l) (10 ∷ []))

-- a line before a chunk that is too long
pub no_chunk-long : (bytes : List ℕ) → HasNoFeed bytes → 1026 ≤ length bytes → IsNoChunk bytes
no_chunk-long bytes none long = record {
  no_chunk = λ c more rest is e. long_size bytes more ((c.content ++ 13 ∷ 10 ∷ []) ++ rest) c.line none long is.line (e ∙ append_assoc (print_chunk_line c.line) (c.content ++ 13 ∷ 10 ∷ []) rest);
  no_last = λ l more rest is e. long_size bytes more rest l none long is.line e;
}

pub size_read : (line : List ℕ) (len n : ℕ) → IsLine line → (l : ChunkLine) × IsChunkLineAt line len n l → (l : ChunkLine) × IsChunkLine l × (line ≡ print_chunk_line l) × (chunk_size l ≡ n)
size_read line len n is at = (at.0, at.1.reads.0, size_is_all line _ at.0 is at.1.reads.1, sym at.1.size_is)

-- bytes that are a line before a chunk, or may become one, are not refused
pub size_there : (bytes : List ℕ) (len n : ℕ) → (l : ChunkLine) × IsChunkLineAt bytes len n l → NeverHasChunkLine bytes → ⊥
size_there bytes len n at never = never [] at.0 _ (at.1.reads.0, append-nil bytes ∙ at.1.reads.1)

pub size_may : (bytes : List ℕ) → MayBecomeChunkLine bytes → NeverHasChunkLine bytes → ⊥
size_may bytes may never = never may.0 may.1 [] may.2
