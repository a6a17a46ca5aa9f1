-- A stream that is sent in chunks is a body that is read.
use Rattle.std.proofs.Common.{◌≡◌, ℕ, ◌+◌, ◌<◌, ◌≤◌, ◌^◌, ◌/◌, ◌%◌, ◌==◌, List, [], ◌∷◌, ◌++◌, length, map, Bool, true, false, ◌&&◌, Some, None, Ok, refl, sym, ap, subst, ◌∙◌, append_assoc, append-nil, length-append, arith, suc, zero, codes}
use Rattle.std.specs.Prelude.{All, if◌then◌else◌}
use Rattle.std.specs.Fmt.{digits, digits_onto, digit_glyph}
use Rattle.std.specs.List.{flat_map, list_all}
use Rattle.std.specs.Char.{is_ascii_digit, is_ascii_hexdigit, digit_value}
use Rattle.std.specs.Str.Parse.{AllDigits}
use Rattle.std.proofs.lemmas.Bool.Decides.{nat_tests}
use Rattle.std.proofs.lemmas.Fmt.{digits_is_IsNumeral}
use Rattle.std.proofs.lemmas.List.Elements.{All-nil, All-cons, All-tail, All-head}
use Rattle.httparse.specs.Grammar.{is_token_byte, is_value_byte, trim_ows, crlf, print_end, IsField, ResponseHead, IsResponseHead, print_response, ChunkLine, IsChunkLine, print_chunk_line}
use Rattle.ev_http.specs.declared.framing.Framing.TheVariants as framing
use Rattle.ev_http.specs.declared.head.Kind.TheVariants as kind
use Rattle.ev_http.specs.Framing.{is_word, after_field, framing_of}
use Rattle.ev_http.specs.Body.{Chunk, print_chunk, print_chunks, contents, IsChunk, IsLastLine, IsFieldLine, InChunks}
use Rattle.ev_http.specs.Messages.{HoldsResponse}
use Rattle.ev_http.specs.Chunked.{stream_head, chunk_line, chunk, last_chunk, IsPiece}
use Rattle.ev_http.proofs.Spelled.{all_pass, field, is_field}

-- ---- the head

abbrev head_of_stream : ResponseHead
head_of_stream = record {
  blank = [];
  minor = 1;
  digits = codes "200";
  reason = Some (codes "OK");
  line_end = crlf;
  fields = field (codes "content-type") (codes "application/json") ∷ (field (codes "transfer-encoding") (codes "chunked") ∷ []);
  last = crlf;
}

is_head_of_stream : IsResponseHead head_of_stream
unfolding is_token_byte
is_head_of_stream = record {
  minor = omega arith;
  digits = (refl, all_pass is_ascii_digit (codes "200") refl);
  reason = all_pass is_value_byte (codes "OK") refl;
  fields = All-cons IsField (field (codes "content-type") (codes "application/json")) (field (codes "transfer-encoding") (codes "chunked") ∷ []) (is_field (codes "content-type") (codes "application/json") (omega arith) refl refl)
      (All-cons IsField (field (codes "transfer-encoding") (codes "chunked")) [] (is_field (codes "transfer-encoding") (codes "chunked") (omega arith) refl refl) (All-nil IsField));
}

printed_stream : stream_head ≡ print_response head_of_stream
unfolding stream_head print_response
printed_stream = refl

short_stream : length stream_head ≤ 16384
unfolding stream_head
short_stream = omega arith

frames_stream : framing_of kind.Response head_of_stream.fields ≡ Ok framing.Chunked
unfolding after_field is_word trim_ows
frames_stream = refl

-- ---- sizes in hexadecimal digits

hex_digit : (c : ℕ) → digit_value c < 16 → is_ascii_hexdigit c ≡ true
hex_digit c small = grind (arith, nat_tests)

hex_pass : (ds : List ℕ) → AllDigits 16 ds → list_all is_ascii_hexdigit ds ≡ true
hex_pass [] all = refl
hex_pass (d ∷ ds) all = ap (λ b. b && list_all is_ascii_hexdigit ds) (hex_digit d all.0) ∙ hex_pass ds all.1

onto_short : (k m n : ℕ) (acc : List ℕ) → n < 16 ^ (suc m) → length (digits_onto k 16 false n acc) ≤ length acc + suc m
onto_short zero m n acc small = omega arith
onto_short (suc k) m n acc small = by_test (n / 16 == 0) refl (λ j below. onto_short k j (n / 16) (digit_glyph false (n % 16) ∷ acc) below)
  where
    later : (m : ℕ) → n < 16 ^ (suc m) → (n / 16 == 0) ≡ false → ((j : ℕ) → n / 16 < 16 ^ (suc j) → length (digits_onto k 16 false (n / 16) (digit_glyph false (n % 16) ∷ acc)) ≤ length (digit_glyph false (n % 16) ∷ acc) + suc j)
        → length (digits_onto k 16 false (n / 16) (digit_glyph false (n % 16) ∷ acc)) ≤ length acc + suc m
    later zero below more step = absurd (let is : (n / 16 == 0) ≡ true = grind (arith, nat_tests) in let apart : false ≡ true = sym more ∙ is in cc)
    later (suc j) below more step = let shorter = step j (omega arith) in omega (arith, shorter)

    by_test : (b : Bool) → (n / 16 == 0) ≡ b → ((j : ℕ) → n / 16 < 16 ^ (suc j) → length (digits_onto k 16 false (n / 16) (digit_glyph false (n % 16) ∷ acc)) ≤ length (digit_glyph false (n % 16) ∷ acc) + suc j)
        → length (if b then digit_glyph false (n % 16) ∷ acc else digits_onto k 16 false (n / 16) (digit_glyph false (n % 16) ∷ acc)) ≤ length acc + suc m
    by_test true e step = omega arith
    by_test false e step = later m small e step

hex_short : (n : ℕ) → n < 2 ^ 64 → length (digits 16 false n) ≤ 16
unfolding digits
hex_short n small = onto_short 64 15 n [] (omega (arith, small))

-- ---- chunks

abbrev line_of : ℕ → ChunkLine
line_of n = record { digits = digits 16 false n; pad = []; extension = None }

abbrev chunk_of : List ℕ → Chunk
chunk_of piece = record { line = line_of (length piece); content = piece }

is_line : (n : ℕ) → n < 2 ^ 64 → IsChunkLine (line_of n)
is_line n small =
    let is = digits_is_IsNumeral 16 false (omega arith) (omega arith) n (omega (arith, small)) in
    record {
      digits = (is.0.0, hex_short n small, all_pass is_ascii_hexdigit (digits 16 false n) (hex_pass (digits 16 false n) is.0.1));
      pad = All-nil _;
      extension = tt;
    }

printed_line : (n : ℕ) → chunk_line n ≡ print_chunk_line (line_of n)
unfolding chunk_line print_chunk_line
printed_line n = ap (λ (x : List ℕ). x ++ (13 ∷ 10 ∷ [])) (sym (append-nil (digits 16 false n)) ∙ sym (append-nil (digits 16 false n ++ [])))

line_length : (n : ℕ) → length (chunk_line n) ≡ length (digits 16 false n) + 2
unfolding chunk_line
line_length n = length-append (digits 16 false n) (13 ∷ 10 ∷ [])

is_chunk : (piece : List ℕ) → 0 < length piece → length piece < 2 ^ 64 → IsChunk (chunk_of piece)
is_chunk piece some small =
    let n = length piece in
    let is = digits_is_IsNumeral 16 false (omega arith) (omega arith) n (omega (arith, small)) in
    record {
      line = record {
        is_line = is_line n small;
        short = subst (λ (x : List ℕ). length x ≤ 1026) (printed_line n) (omega (arith, line_length n, hex_short n small));
      };
      size = sym is.1;
      some = omega (arith, is.1, some);
    }

printed_chunk : (piece : List ℕ) → chunk piece ≡ print_chunk (chunk_of piece)
printed_chunk piece = append_assoc (chunk_line (length piece)) piece (codes "\r\n") ∙ ap (λ (x : List ℕ). x ++ (piece ++ 13 ∷ 10 ∷ [])) (printed_line (length piece))

are_chunks : (pieces : List (List ℕ)) → All IsPiece pieces → All IsChunk (map chunk_of pieces)
are_chunks [] all = All-nil IsChunk
are_chunks (piece ∷ pieces) all =
    let at = All-head IsPiece piece pieces all in
    All-cons IsChunk (chunk_of piece) (map chunk_of pieces) (is_chunk piece at.0 at.1) (are_chunks pieces (All-tail IsPiece piece pieces all))

joined : (pieces : List (List ℕ)) → flat_map (λ (piece : List ℕ). piece) pieces ≡ contents (map chunk_of pieces)
joined [] = refl
joined (piece ∷ pieces) = ap (λ (x : List ℕ). piece ++ x) (joined pieces)

printed_chunks : (pieces : List (List ℕ)) → flat_map chunk pieces ≡ print_chunks (map chunk_of pieces)
printed_chunks [] = refl
printed_chunks (piece ∷ pieces) = ap (λ (x : List ℕ). x ++ flat_map chunk pieces) (printed_chunk piece) ∙ ap (λ (x : List ℕ). print_chunk (chunk_of piece) ++ x) (printed_chunks pieces)

abbrev end_line : ChunkLine
end_line = record { digits = codes "0"; pad = []; extension = None }

is_end : IsLastLine end_line
unfolding print_chunk_line
is_end = record {
  line = record {
    is_line = record { digits = (omega arith, omega arith, all_pass is_ascii_hexdigit (codes "0") refl); pad = All-nil _; extension = tt };
    short = omega arith;
  };
  none = refl;
}

printed_last : last_chunk ≡ print_chunk_line end_line ++ ([] ++ print_end crlf)
unfolding last_chunk print_chunk_line
printed_last = refl

in_chunks : (pieces : List (List ℕ)) → All IsPiece pieces → InChunks (flat_map (λ (piece : List ℕ). piece) pieces) (flat_map chunk pieces ++ last_chunk)
in_chunks pieces all = record {
  chunks = map chunk_of pieces;
  are_chunks = are_chunks pieces all;
  last = end_line;
  is_last = is_end;
  fields = [];
  are_fields = ([], All-nil IsFieldLine, refl);
  few = omega arith;
  end = crlf;
  body_is = joined pieces;
  bytes_are = ap (λ (x : List ℕ). x ++ last_chunk) (printed_chunks pieces) ∙ ap (λ (x : List ℕ). print_chunks (map chunk_of pieces) ++ x) printed_last;
}

pub stream_back : (pieces : List (List ℕ)) (rest : List ℕ) → All IsPiece pieces → HoldsResponse (flat_map (λ (piece : List ℕ). piece) pieces) rest ((stream_head ++ (flat_map chunk pieces ++ last_chunk)) ++ rest)
stream_back pieces rest all = record {
  h = head_of_stream;
  head = stream_head;
  whole = record { is_head = is_head_of_stream; printed = printed_stream; few = omega arith; short = short_stream };
  framed = framing.Chunked;
  says = (refl, frames_stream);
  after = flat_map chunk pieces ++ last_chunk;
  carries = in_chunks pieces all;
  alone = tt;
  bytes_are = append_assoc stream_head (flat_map chunk pieces ++ last_chunk) rest;
}
