-- The body of a message (RFC 9112, sections 6 and 7), whole and as far as it came.
use Rattle.std.specs.Prelude.{◌≡◌, ◌≢◌, ℕ, ◌+◌, ◌-◌, ◌*◌, ◌<◌, ◌≤◌, ◌⊎◌, List, [], ◌∷◌, ◌++◌, length, drop, All, ⊤, Option, Some, None, Result, Ok, Err, zero, suc}
use Rattle.std.specs.Global.{Vec}
use Rattle.std.specs.List.{flat_map}
use Rattle.httparse.specs.Grammar.{LineEnd, print_end, ChunkLine, IsChunkLine, print_chunk_line, chunk_size, NeverHasChunkLine}
use Rattle.ev_http.specs.declared.fault.HttpFault.{HttpFault}
use Rattle.ev_http.specs.declared.fault.HttpFault.TheVariants as fault
use Rattle.ev_http.specs.declared.framing.Framing.{Framing}
use Rattle.ev_http.specs.declared.framing.Framing.TheVariants as framing
use Rattle.ev_http.specs.declared.body.Part.{Part}
use Rattle.ev_http.specs.declared.body.Part.TheVariants as part
use Rattle.ev_http.specs.declared.taking.Tally.{Tally}
use Rattle.zx_outside.specs.Reading.{HasNoFeed}
use Rattle.ev_http.specs.Taking.{Told, Ends, counted, IsLine}

-- A chunk: its line, its content and CR LF.
pub record Chunk : Type 0 where
  pub line : ChunkLine
  pub content : List ℕ

abbrev pub print_chunk : Chunk → List ℕ
print_chunk c = print_chunk_line c.line ++ (c.content ++ 13 ∷ 10 ∷ [])

-- A chunk line of at most 1,024 bytes and CR LF.
pub record IsSizeLine (l : ChunkLine) : Type 0 where
  pub is_line : IsChunkLine l
  pub short : length (print_chunk_line l) ≤ 1026

-- The content has as many bytes as its line says, and there are some.
pub record IsChunk (c : Chunk) : Type 0 where
  pub line : IsSizeLine c.line
  pub size : length c.content ≡ chunk_size c.line
  pub some : 0 < chunk_size c.line

-- The line of the last chunk, which has no content.
pub record IsLastLine (l : ChunkLine) : Type 0 where
  pub line : IsSizeLine l
  pub none : chunk_size l ≡ 0

abbrev pub print_chunks : List Chunk → List ℕ
print_chunks chunks = flat_map print_chunk chunks

abbrev pub contents : List Chunk → List ℕ
contents chunks = flat_map (λ (c : Chunk). c.content) chunks

-- A line that is not empty. What it says is not looked at.
pub record IsFieldLine (line : List ℕ) : Type 0 where
  pub is_line : IsLine line
  pub not_lf : line ≢ 10 ∷ []
  pub not_crlf : line ≢ 13 ∷ 10 ∷ []

-- Trailer fields: lines that are not empty.
abbrev pub AreFields : List ℕ → Type 0
AreFields text = (lines : List (List ℕ)) × All IsFieldLine lines × (text ≡ flat_map (λ (line : List ℕ). line) lines)

-- A body in chunks: the chunks, the last line, trailer fields of at most 16,384 bytes, and an empty line.
pub record InChunks (body bytes : List ℕ) : Type 0 where
  pub chunks : List Chunk
  pub are_chunks : All IsChunk chunks
  pub last : ChunkLine
  pub is_last : IsLastLine last
  pub fields : List ℕ
  pub are_fields : AreFields fields
  pub few : length fields ≤ 16384
  pub end : LineEnd
  pub body_is : body ≡ contents chunks
  pub bytes_are : bytes ≡ print_chunks chunks ++ (print_chunk_line last ++ (fields ++ print_end end))

-- The bytes after a head carry this body.
abbrev pub Framed : Framing → List ℕ → List ℕ → Type 0
Framed (framing.Counted n) body bytes = (bytes ≡ body) × (length body ≡ n)
Framed framing.ToEnd body bytes = bytes ≡ body
Framed framing.Chunked body bytes = InChunks body bytes

-- Whole chunks, and then these bytes, which begin at this place.
pub record AfterChunks (start place : ℕ) (f : Framing) (chunks : List Chunk) (tail bytes : List ℕ) : Type 0 where
  pub chunked : f ≡ framing.Chunked
  pub are_chunks : All IsChunk chunks
  pub bytes_are : bytes ≡ print_chunks chunks ++ tail
  pub place_is : place ≡ counted (start + length (print_chunks chunks))

-- In the line before a chunk.
pub record AtSize (start place : ℕ) (f : Framing) (line bytes body : List ℕ) : Type 0 where
  pub chunks : List Chunk
  pub so_far : AfterChunks start place f chunks line bytes
  pub body_is : body ≡ contents chunks
  pub no_feed : HasNoFeed line

-- In the content of a chunk.
pub record AtContent (start place left : ℕ) (f : Framing) (line bytes body : List ℕ) : Type 0 where
  pub chunks : List Chunk
  pub size : ChunkLine
  pub is_size : IsSizeLine size
  pub content : List ℕ
  pub so_far : AfterChunks start place f chunks (print_chunk_line size ++ content) bytes
  pub body_is : body ≡ contents chunks ++ content
  pub left_is : length content + left ≡ chunk_size size
  pub some : 0 < left
  pub empty : line ≡ []

-- After the content of a chunk, before the end of its CR LF.
pub record AtGap (start place : ℕ) (f : Framing) (line bytes body : List ℕ) : Type 0 where
  pub chunks : List Chunk
  pub size : ChunkLine
  pub is_size : IsSizeLine size
  pub content : List ℕ
  pub so_far : AfterChunks start place f chunks (print_chunk_line size ++ (content ++ line)) bytes
  pub body_is : body ≡ contents chunks ++ content
  pub size_is : length content ≡ chunk_size size
  pub some : 0 < chunk_size size
  pub no_feed : HasNoFeed line

-- In the trailer fields, after whole lines of so many bytes.
pub record AtTrailer (start place fields : ℕ) (f : Framing) (line bytes body : List ℕ) : Type 0 where
  pub chunks : List Chunk
  pub last : ChunkLine
  pub is_last : IsLastLine last
  pub text : List ℕ
  pub are_fields : AreFields text
  pub few : length text ≤ 16384
  pub cut : List ℕ
  pub no_feed : HasNoFeed cut
  pub line_is : line ≡ text ++ cut
  pub fields_is : fields ≡ length text
  pub chunked : f ≡ framing.Chunked
  pub are_chunks : All IsChunk chunks
  pub bytes_are : bytes ≡ print_chunks chunks ++ (print_chunk_line last ++ line)
  pub place_is : place ≡ counted (start + length (print_chunks chunks ++ print_chunk_line last))
  pub body_is : body ≡ contents chunks

-- What came of a body after a head of so many bytes, where this part comes next.
abbrev pub Came : ℕ → Framing → Part → List ℕ → List ℕ → List ℕ → Type 0
Came start f (part.Counted left) line bytes body = (f ≡ framing.Counted (length body + left)) × (bytes ≡ body)
Came start f part.ToEnd line bytes body = (f ≡ framing.ToEnd) × (bytes ≡ body)
Came start f (part.Size place) line bytes body = AtSize start place f line bytes body
Came start f (part.Content place left) line bytes body = AtContent start place left f line bytes body
Came start f (part.Gap place) line bytes body = AtGap start place f line bytes body
Came start f (part.Trailer place fields) line bytes body = AtTrailer start place fields f line bytes body
Came start f part.Whole line bytes body = Framed f body bytes

-- However the bytes go on, they do not begin with a chunk or with a last line.
pub record IsNoChunk (bytes : List ℕ) : Type 0 where
  pub no_chunk : (c : Chunk) (more rest : List ℕ) → IsChunk c → bytes ++ more ≡ print_chunk c ++ rest → ⊥
  pub no_last : (l : ChunkLine) (more rest : List ℕ) → IsLastLine l → bytes ++ more ≡ print_chunk_line l ++ rest → ⊥

-- However the bytes go on, they do not begin with trailer fields of at most 16,384 bytes and an empty line.
abbrev pub IsNoTrailer : List ℕ → Type 0
IsNoTrailer bytes = (fields : List ℕ) (end : LineEnd) (more rest : List ℕ) → AreFields fields → length fields ≤ 16384 → bytes ++ more ≡ fields ++ (print_end end ++ rest) → ⊥

-- The bytes after a head break a rule at a place: no chunk and no last line begins there, or no trailer that is short enough.
abbrev pub BreaksAt : ℕ → ℕ → Framing → List ℕ → Type 0
BreaksAt start place f bytes =
    ((chunks : List Chunk) × (tail : List ℕ) × AfterChunks start place f chunks tail bytes × IsNoChunk tail)
    ⊎ ((chunks : List Chunk) × (last : ChunkLine) × (tail : List ℕ) × (f ≡ framing.Chunked) × (All IsChunk chunks) × IsLastLine last
    × (bytes ≡ print_chunks chunks ++ (print_chunk_line last ++ tail)) × (place ≡ counted (start + length (print_chunks chunks ++ print_chunk_line last))) × IsNoTrailer tail)

-- The part that comes first after a head of so many bytes.
abbrev pub first_part : Framing → ℕ → Part
first_part (framing.Counted n) head = part.Counted n
first_part framing.ToEnd head = part.ToEnd
first_part framing.Chunked head = part.Size head

-- A message whose source ends in this part is not whole, and what came of the part's line may still become one.
abbrev pub IsOpen : Part → List ℕ → Type 0
IsOpen part.Whole line = ⊥
IsOpen part.ToEnd line = ⊥
IsOpen (part.Counted left) line = 0 < left
IsOpen (part.Content place left) line = 0 < left
IsOpen (part.Size place) line = NeverHasChunkLine line → ⊥
IsOpen (part.Gap place) line = (line ≡ []) ⊎ (line ≡ 13 ∷ [])
IsOpen (part.Trailer place fields) line = ⊤

-- What comes next, where so many bytes are left of a chunk.
abbrev pub after_content : ℕ → ℕ → Part
after_content place zero = part.Gap place
after_content place (suc left) = part.Content place (suc left)

-- Proof only: a number that falls with each step of the reading, by the part that comes next alone (`rank`), and by the bytes of
-- the body that came as well (`work`).
abbrev pub rank : Part → ℕ
rank part.Whole = 0
rank (part.Counted left) = 1
rank part.ToEnd = 1
rank (part.Trailer place fields) = 1 + (16400 - fields)
rank (part.Content place left) = 20000
rank (part.Size place) = 30000
rank (part.Gap place) = 40000

abbrev pub work : Part → ℕ → ℕ
work p held = (8400000 - held) * 100000 + rank p

-- The size that a whole line before a chunk says.
abbrev pub HasSize : Option ℕ → List ℕ → Type 0
HasSize (Some n) line = (l : ChunkLine) × IsChunkLine l × (line ≡ print_chunk_line l) × (chunk_size l ≡ n)
HasSize None line = IsNoChunk line

-- What a whole line before a chunk says: that the content or the trailer comes next, or that it is no such line.
abbrev pub SizeAnswer : Option Part → ℕ → ℕ → List ℕ → Type 0
SizeAnswer (Some (part.Content p left)) place next line = (l : ChunkLine) × IsChunkLine l × (line ≡ print_chunk_line l) × (chunk_size l ≡ left) × (0 < left) × (p ≡ place)
SizeAnswer (Some (part.Trailer p fields)) place next line = (l : ChunkLine) × IsChunkLine l × (line ≡ print_chunk_line l) × (chunk_size l ≡ 0) × (fields ≡ 0) × (p ≡ next)
SizeAnswer (Some (part.Counted left)) place next line = ⊥
SizeAnswer (Some part.ToEnd) place next line = ⊥
SizeAnswer (Some (part.Size p)) place next line = ⊥
SizeAnswer (Some (part.Gap p)) place next line = ⊥
SizeAnswer (Some part.Whole) place next line = ⊥
SizeAnswer None place next line = IsNoChunk line

-- What the last line of these bytes says of a trailer: that it has ended, or has one more field, or is too long.
abbrev pub TrailerAnswer : Option Part → ℕ → ℕ → List ℕ → Type 0
TrailerAnswer (Some part.Whole) place fields line = (end : LineEnd) × (drop fields line ≡ print_end end)
TrailerAnswer (Some (part.Trailer p n)) place fields line = (p ≡ place) × (n ≡ length line) × (length line ≤ 16384) × (drop fields line ≢ 10 ∷ []) × (drop fields line ≢ 13 ∷ 10 ∷ [])
TrailerAnswer (Some (part.Counted left)) place fields line = ⊥
TrailerAnswer (Some part.ToEnd) place fields line = ⊥
TrailerAnswer (Some (part.Size p)) place fields line = ⊥
TrailerAnswer (Some (part.Content p left)) place fields line = ⊥
TrailerAnswer (Some (part.Gap p)) place fields line = ⊥
TrailerAnswer None place fields line = (16384 < length line) × (drop fields line ≢ 10 ∷ []) × (drop fields line ≢ 13 ∷ 10 ∷ [])

-- A body that lasts to the end of its source is whole only there.
abbrev pub EndsWhole : Framing → Part → Told → Type 0
EndsWhole framing.ToEnd part.Whole source = Ends source
EndsWhole framing.ToEnd part.ToEnd source = ⊤
EndsWhole framing.ToEnd (part.Counted left) source = ⊤
EndsWhole framing.ToEnd (part.Size place) source = ⊤
EndsWhole framing.ToEnd (part.Content place left) source = ⊤
EndsWhole framing.ToEnd (part.Gap place) source = ⊤
EndsWhole framing.ToEnd (part.Trailer place fields) source = ⊤
EndsWhole (framing.Counted n) p source = ⊤
EndsWhole framing.Chunked p source = ⊤

-- What the taking of a part came to, by its answer, where these bytes came in all.
abbrev pub PartAnswer : Result Part HttpFault → ℕ → Framing → Part → List ℕ → List ℕ → List ℕ → Told → Tally → Type 0
PartAnswer (Ok next) start f p line bytes body source tally = Came start f next line bytes body × EndsWhole f next source
PartAnswer (Err fault.Idle) start f p line bytes body source tally = Came start f p line bytes body × (tally.turns ≡ 6000)
PartAnswer (Err fault.ReadFault) start f p line bytes body source tally = Came start f p line bytes body
PartAnswer (Err (fault.Ended n)) start f p line bytes body source tally = Came start f p line bytes body × IsOpen p line × Ends source × (n ≡ tally.taken)
PartAnswer (Err (fault.Body place)) start f p line bytes body source tally = BreaksAt start place f bytes
PartAnswer (Err fault.Memory) start f p line bytes body source tally = ⊤
PartAnswer (Err fault.Head) start f p line bytes body source tally = ⊥
PartAnswer (Err (fault.Status n)) start f p line bytes body source tally = ⊥
PartAnswer (Err fault.Route) start f p line bytes body source tally = ⊥
PartAnswer (Err (fault.TooLong n)) start f p line bytes body source tally = ⊥
PartAnswer (Err fault.WriteFault) start f p line bytes body source tally = ⊥

-- What the taking of a piece came to, by its answer. Without memory the piece may be lost.
abbrev pub TakesBytes : Result (Option ℕ) HttpFault → List ℕ → List ℕ → List ℕ → ℕ → Told → Tally → Type 0
TakesBytes (Ok (Some n)) old added new most source tally = (new ≡ old ++ added) × (n ≡ length added) × (0 < n) × (n ≤ most)
TakesBytes (Ok None) old added new most source tally = (added ≡ []) × (new ≡ old) × Ends source
TakesBytes (Err fault.Idle) old added new most source tally = (added ≡ []) × (new ≡ old) × (tally.turns ≡ 6000)
TakesBytes (Err fault.ReadFault) old added new most source tally = (added ≡ []) × (new ≡ old)
TakesBytes (Err fault.Memory) old added new most source tally = ⊤
TakesBytes (Err fault.Head) old added new most source tally = ⊥
TakesBytes (Err (fault.Status n)) old added new most source tally = ⊥
TakesBytes (Err fault.Route) old added new most source tally = ⊥
TakesBytes (Err (fault.Body p)) old added new most source tally = ⊥
TakesBytes (Err (fault.TooLong n)) old added new most source tally = ⊥
TakesBytes (Err (fault.Ended n)) old added new most source tally = ⊥
TakesBytes (Err fault.WriteFault) old added new most source tally = ⊥

-- Where no piece was taken, the body stays as it was.
abbrev pub StaysAtEnd : Result (Option ℕ) HttpFault → List ℕ → List ℕ → Type 0
StaysAtEnd (Ok (Some n)) old new = ⊤
StaysAtEnd (Ok None) old new = new ≡ old
StaysAtEnd (Err e) old new = new ≡ old

-- What the taking of a part came to, whatever bytes of the message came before.
abbrev pub TakesPart : Result Part HttpFault → Part → List ℕ → List ℕ → List ℕ → List ℕ → List ℕ → Told → Tally → Type 0
TakesPart result p line body added line' body' source tally =
    (start : ℕ) (f : Framing) (bytes : List ℕ) → Came start f p line bytes body → tally.taken ≡ counted (start + length (bytes ++ added))
    → PartAnswer result start f p line' (bytes ++ added) body' source tally

-- How many bytes more of a body its head or its chunk line announces.
abbrev pub announced : Part → ℕ
announced (part.Counted left) = left
announced (part.Content place left) = left
announced part.Whole = 0
announced part.ToEnd = 0
announced (part.Size place) = 0
announced (part.Gap place) = 0
announced (part.Trailer place fields) = 0

-- The bytes after a head are the front of a body that has more than 8,388,608 bytes, with those that are announced.
pub record IsTooMuch (start : ℕ) (f : Framing) (bytes : List ℕ) : Type 0 where
  pub part : Part
  pub line : List ℕ
  pub body : List ℕ
  pub came : Came start f part line bytes body
  pub more : 8388608 < length body + announced part

-- The bytes after a head are the front of a body that keeps its limit, with the bytes that are announced, and the message is not
-- whole.
pub record IsUnfinished (start : ℕ) (f : Framing) (bytes : List ℕ) : Type 0 where
  pub next : Part
  pub line : List ℕ
  pub body : List ℕ
  pub came : Came start f next line bytes body
  pub more : next ≢ part.Whole
  pub fits : length body + announced next ≤ 8388608

-- The bytes after a head are the front of a body that keeps its limit, with the bytes that are announced, and a message whose
-- source ends there is not whole.
pub record IsCut (start : ℕ) (f : Framing) (bytes : List ℕ) : Type 0 where
  pub part : Part
  pub line : List ℕ
  pub body : List ℕ
  pub came : Came start f part line bytes body
  pub more : IsOpen part line
  pub fits : length body + announced part ≤ 8388608

-- What the reading of a body after a head of so many bytes came to, by its answer.
abbrev pub BodyAnswer : Result (Vec ℕ) HttpFault → ℕ → Framing → List ℕ → Told → Tally → Type 0
BodyAnswer (Ok body) start f bytes source tally = Framed f body.items bytes × EndsWhole f part.Whole source × (length body.items ≤ 8388608)
BodyAnswer (Err (fault.Body place)) start f bytes source tally = BreaksAt start place f bytes
BodyAnswer (Err (fault.TooLong limit)) start f bytes source tally = (limit ≡ 8388608) × IsTooMuch start f bytes
BodyAnswer (Err (fault.Ended n)) start f bytes source tally = IsCut start f bytes × Ends source × (n ≡ tally.taken)
BodyAnswer (Err fault.Idle) start f bytes source tally = IsUnfinished start f bytes × (tally.turns ≡ 6000)
BodyAnswer (Err fault.ReadFault) start f bytes source tally = IsUnfinished start f bytes
BodyAnswer (Err fault.Memory) start f bytes source tally = ⊤
BodyAnswer (Err fault.Head) start f bytes source tally = ⊥
BodyAnswer (Err (fault.Status n)) start f bytes source tally = ⊥
BodyAnswer (Err fault.Route) start f bytes source tally = ⊥
BodyAnswer (Err fault.WriteFault) start f bytes source tally = ⊥

-- These bytes may follow a body: none may follow one that lasts to the source's end.
abbrev pub LastsTo : Framing → List ℕ → Type 0
LastsTo framing.ToEnd rest = rest ≡ []
LastsTo (framing.Counted n) rest = ⊤
LastsTo framing.Chunked rest = ⊤

-- The reading of a whole body within its limit: it is read, and the bytes after it are left in the source; or there is a fault of
-- the source, or memory ran out.
abbrev pub ReadsBody : Result (Vec ℕ) HttpFault → List ℕ → List ℕ → Option (List ℕ) → Type 0
ReadsBody (Ok v) body rest left = (v.items ≡ body) × (left ≡ Some rest)
ReadsBody (Err fault.Idle) body rest left = ⊤
ReadsBody (Err fault.ReadFault) body rest left = ⊤
ReadsBody (Err fault.Memory) body rest left = ⊤
ReadsBody (Err fault.Head) body rest left = ⊥
ReadsBody (Err (fault.Status n)) body rest left = ⊥
ReadsBody (Err fault.Route) body rest left = ⊥
ReadsBody (Err (fault.Body place)) body rest left = ⊥
ReadsBody (Err (fault.TooLong n)) body rest left = ⊥
ReadsBody (Err (fault.Ended n)) body rest left = ⊥
ReadsBody (Err fault.WriteFault) body rest left = ⊥
