-- How a body that comes piece by piece goes on.
use Rattle.std.proofs.Common.{◌≡◌, ℕ, ◌+◌, ◌-◌, List, [], ◌++◌, length, Some, None, Ok, Err, zero, suc, sym, ap, subst, ◌∙◌, append_assoc, append-nil, length-append, arith}
use Rattle.ev_http.specs.declared.fault.HttpFault.{HttpFault}
use Rattle.ev_http.specs.declared.fault.HttpFault.TheVariants as fault
use Rattle.ev_http.specs.declared.framing.Framing.{Framing}
use Rattle.ev_http.specs.declared.framing.Framing.TheVariants as framing
use Rattle.ev_http.specs.declared.body.Part.{Part}
use Rattle.ev_http.specs.declared.body.Part.TheVariants as part
use Rattle.ev_http.specs.declared.taking.Tally.{Tally}
use Rattle.httparse.specs.Grammar.{print_chunk_line}
use Rattle.ev_http.proofs.Takings.{no_feed-nil}
use Rattle.zx_outside.specs.Reading.{HasNoFeed}
use Rattle.ev_http.specs.Taking.{Told}
use Rattle.std.specs.Prelude.{Option, Result}
use Rattle.ev_http.specs.Body.{Chunk, print_chunks, contents, AfterChunks, AtContent, Came, EndsWhole, TakesBytes, TakesPart, after_content, Framed}

nothing : (bytes added : List ℕ) → added ≡ [] → bytes ++ added ≡ bytes
nothing bytes added e = ap (λ (x : List ℕ). bytes ++ x) e ∙ append-nil bytes

-- a piece after a front of the body
pub takes_bytes-before : (r : Result (Option ℕ) HttpFault) (before old added new : List ℕ) (most : ℕ) (source : Told) (tally : Tally) → TakesBytes r old added new most source tally → TakesBytes r (before ++ old) added (before ++ new) most source tally
takes_bytes-before (Ok (Some n)) before old added new most source tally got = (ap (λ (x : List ℕ). before ++ x) got.0 ∙ sym (append_assoc before old added), got.1, got.2, got.3)
takes_bytes-before (Ok None) before old added new most source tally got = (got.0, ap (λ (x : List ℕ). before ++ x) got.1, got.2)
takes_bytes-before (Err fault.Idle) before old added new most source tally got = (got.0, ap (λ (x : List ℕ). before ++ x) got.1, got.2)
takes_bytes-before (Err fault.ReadFault) before old added new most source tally got = (got.0, ap (λ (x : List ℕ). before ++ x) got.1)
takes_bytes-before (Err fault.Memory) before old added new most source tally got = tt
takes_bytes-before (Err fault.Head) before old added new most source tally got = absurd got
takes_bytes-before (Err (fault.Status n)) before old added new most source tally got = absurd got
takes_bytes-before (Err fault.Route) before old added new most source tally got = absurd got
takes_bytes-before (Err (fault.Body n)) before old added new most source tally got = absurd got
takes_bytes-before (Err (fault.TooLong n)) before old added new most source tally got = absurd got
takes_bytes-before (Err (fault.Ended n)) before old added new most source tally got = absurd got
takes_bytes-before (Err fault.WriteFault) before old added new most source tally got = absurd got

pub counted_whole : (left : ℕ) (body added body' : List ℕ) (source : Told) (tally : Tally) → left ≡ 0 → added ≡ [] → body' ≡ body
    → (line : List ℕ) → TakesPart (Ok part.Whole) (part.Counted left) line body added line body' source tally
counted_whole left body added body' source tally none nil same line start f bytes came taken =
    let is : f ≡ framing.Counted (length body) = came.0 ∙ ap framing.Counted (omega (arith, none)) in (
      subst (λ (x : Framing). Framed x body' (bytes ++ added)) (sym is) (nothing bytes added nil ∙ came.1 ∙ sym same, ap length same),
      subst (λ (x : Framing). EndsWhole x part.Whole source) (sym is) tt,
    )

pub after_more : (start place : ℕ) (f : Framing) (chunks : List Chunk) (tail bytes added tail' : List ℕ) → AfterChunks start place f chunks tail bytes → tail ++ added ≡ tail' → AfterChunks start place f chunks tail' (bytes ++ added)
after_more start place f chunks tail bytes added tail' so_far joined = record {
  chunked = so_far.chunked;
  are_chunks = so_far.are_chunks;
  bytes_are = ap (λ (x : List ℕ). x ++ added) so_far.bytes_are ∙ append_assoc (print_chunks chunks) tail added ∙ ap (λ (x : List ℕ). print_chunks chunks ++ x) joined;
  place_is = so_far.place_is;
}

pub chunk_goes : (f : Framing) (p : Part) (source : Told) → f ≡ framing.Chunked → EndsWhole f p source
chunk_goes f p source e = subst (λ (x : Framing). EndsWhole x p source) (sym e) tt

in_content : (start place left n : ℕ) (f : Framing) (line bytes added body body' : List ℕ) → AtContent start place left f line bytes body → body' ≡ body ++ added → length added + n ≡ left
    → Came start f (after_content place n) line (bytes ++ added) body'
in_content start place left zero f line bytes added body body' at grown size = record {
  chunks = at.chunks;
  size = at.size;
  is_size = at.is_size;
  content = at.content ++ added;
  so_far = after_more _ _ _ _ _ _ _ _ at.so_far (
      append_assoc (print_chunk_line at.size) at.content added
      ∙ ap (λ (x : List ℕ). print_chunk_line at.size ++ x) (sym (append-nil (at.content ++ added)) ∙ ap (λ (x : List ℕ). (at.content ++ added) ++ x) (sym at.empty)));
  body_is = grown ∙ ap (λ (x : List ℕ). x ++ added) at.body_is ∙ append_assoc (contents at.chunks) at.content added;
  size_is = omega (arith, length-append at.content added, at.left_is, size);
  some = omega (arith, at.left_is, at.some);
  no_feed = subst HasNoFeed (sym at.empty) no_feed-nil;
}
in_content start place left (suc n) f line bytes added body body' at grown size = record {
  chunks = at.chunks;
  size = at.size;
  is_size = at.is_size;
  content = at.content ++ added;
  so_far = after_more _ _ _ _ _ _ _ _ at.so_far (append_assoc (print_chunk_line at.size) at.content added);
  body_is = grown ∙ ap (λ (x : List ℕ). x ++ added) at.body_is ∙ append_assoc (contents at.chunks) at.content added;
  left_is = omega (arith, length-append at.content added, at.left_is, size);
  some = omega arith;
  empty = at.empty;
}

pub content_more : (n place left : ℕ) (body added body' : List ℕ) (source : Told) (tally : Tally) → TakesBytes (Ok (Some n)) body added body' left source tally
    → (line : List ℕ) → TakesPart (Ok (after_content place (left - n))) (part.Content place left) line body added line body' source tally
content_more n place left body added body' source tally got line start f bytes came taken = (
  in_content start place left (left - n) f line bytes added body body' came got.0 (omega (arith, got.1, got.3)),
  chunk_goes f (after_content place (left - n)) source came.so_far.chunked,
)
