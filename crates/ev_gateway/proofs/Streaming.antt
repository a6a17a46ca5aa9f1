-- How the stream of a watch is written, piece by piece.
use Rattle.std.proofs.Common.{◌≡◌, ◌∙◌, ℕ, ◌+◌, ◌≤◌, false, List, [], ◌∷◌, ◌++◌, length, take, inl, inr, refl, sym, ap, subst, arith, append-nil, append_assoc, length-append}
use Rattle.std.proofs.lemmas.Int.{ints}
use Rattle.std.proofs.lemmas.List.{take-append-le}
use Rattle.std.proofs.Math.Seq.{take-append-add}
use Rattle.std.specs.Prelude.{ℤ, pos, nat_abs, ◌<ℤ◌, Option, Result, Ok, Err}
use Rattle.zx_outside.specs.Writing.{TakesFront, Takes}
use Rattle.zx_outside.proofs.Streams.{Takes-append, append_known-nil}
use Rattle.ev_types.specs.declared.answer.Kv.{Kv}
use Rattle.ev_json.specs.Messages.{canceled_text}
use Rattle.ev_http.specs.declared.fault.HttpFault.{HttpFault}
use Rattle.ev_http.specs.declared.fault.HttpFault.TheVariants as http
use Rattle.ev_http.specs.Chunked.{last_chunk}
use Rattle.ev_http.specs.Sending.{Sends, Wrote}
use Rattle.ev_http.proofs.Sending.{wrote_both}
use Rattle.ev_http.specs.Taking.{Told}
use Rattle.ev_gateway.specs.Looking.{Looks, Waits}
use Rattle.ev_gateway.specs.Sinks.{Rests}
use Rattle.ev_http.specs.Sinks.{SinkTold}
use Rattle.ev_gateway.specs.Streaming.{IsEnding, IsPut, Rise, Streams, Watches, WroteFront, begun, line_chunk, put_line, put_lines, told_whole}
use Rattle.ev_gateway.specs.declared.watching.WatchEnd.{WatchEnd}
use Rattle.ev_gateway.specs.declared.watching.WatchEnd.TheVariants as over
use Rattle.ev_gateway.proofs.Looking.{no_look}

-- nothing at all is a front
pub starves : (bytes : List ℕ) (k k' : SinkTold) → Rests k k' → WroteFront (Err http.Memory) bytes k k'
starves bytes k k' h = ((0, omega (arith), h.0 ∙ sym (append_known-nil k.taken)), h.1, h.2)

pub by_wrote : (r : Result (Unit {0}) HttpFault) (bytes : List ℕ) (k k' : SinkTold) → Wrote r bytes k.taken k'.taken k.counts k'.counts k.name k'.name → WroteFront r bytes k k'
by_wrote (Ok u) bytes k k' h = h
by_wrote (Err http.Memory) bytes k k' h = absurd h
by_wrote (Err http.WriteFault) bytes k k' h = h
by_wrote (Err http.Head) bytes k k' h = h
by_wrote (Err (http.Status n)) bytes k k' h = h
by_wrote (Err http.Route) bytes k k' h = h
by_wrote (Err (http.Body n)) bytes k k' h = h
by_wrote (Err (http.TooLong n)) bytes k k' h = h
by_wrote (Err (http.Ended n)) bytes k k' h = h
by_wrote (Err http.Idle) bytes k k' h = h
by_wrote (Err http.ReadFault) bytes k k' h = h

pub by_sent : (r : Result (Unit {0}) HttpFault) (bytes : List ℕ) (k k' : SinkTold) → Sends r bytes k.taken k'.taken k.counts k'.counts k.name k'.name → WroteFront r bytes k k'
by_sent (Ok u) bytes k k' h = h
by_sent (Err http.Memory) bytes k k' h = starves bytes k k' h
by_sent (Err http.WriteFault) bytes k k' h = h
by_sent (Err http.Head) bytes k k' h = h
by_sent (Err (http.Status n)) bytes k k' h = h
by_sent (Err http.Route) bytes k k' h = h
by_sent (Err (http.Body n)) bytes k k' h = h
by_sent (Err (http.TooLong n)) bytes k k' h = h
by_sent (Err (http.Ended n)) bytes k k' h = h
by_sent (Err http.Idle) bytes k k' h = h
by_sent (Err http.ReadFault) bytes k k' h = h

-- one piece that was written whole, and then another or a front of it
pub both : (r : Result (Unit {0}) HttpFault) (a b : List ℕ) (k m k' : SinkTold) → WroteFront (Ok tt) a k m → WroteFront r b m k' → WroteFront r (a ++ b) k k'
both (Ok u) a b k m k' early late = wrote_both (Ok u) a b k.taken m.taken k'.taken k.counts m.counts k'.counts k.name m.name k'.name early late
both (Err http.Memory) a b k m k' early late = (
  (length a + late.0.0, omega (arith, late.0.1, length-append a b), subst (λ (x : List ℕ). Takes x k.taken k'.taken) (sym (take-append-add a b late.0.0)) (Takes-append a (take late.0.0 b) k.taken m.taken k'.taken early.0 late.0.2)),
  late.1 ∙ early.1,
  late.2 ∙ early.2,
)
both (Err http.WriteFault) a b k m k' early late = wrote_both (Err http.WriteFault) a b k.taken m.taken k'.taken k.counts m.counts k'.counts k.name m.name k'.name early late
both (Err http.Head) a b k m k' early late = absurd late
both (Err (http.Status n)) a b k m k' early late = absurd late
both (Err http.Route) a b k m k' early late = absurd late
both (Err (http.Body n)) a b k m k' early late = absurd late
both (Err (http.TooLong n)) a b k m k' early late = absurd late
both (Err (http.Ended n)) a b k m k' early late = absurd late
both (Err http.Idle) a b k m k' early late = absurd late
both (Err http.ReadFault) a b k m k' early late = absurd late

longer : (a b : List ℕ) (taken taken' : Option (List ℕ)) → TakesFront a taken taken' → TakesFront (a ++ b) taken taken'
longer a b taken taken' front =
    (front.0, omega (arith, front.1, length-append a b), subst (λ (x : List ℕ). Takes x taken taken') (sym (take-append-le front.0 a b front.1)) front.2)

-- a front of a piece is a front of more
pub cut : (f : HttpFault) (a b : List ℕ) (k k' : SinkTold) → WroteFront (Err f) a k k' → WroteFront (Err f) (a ++ b) k k'
cut http.Memory a b k k' h = (longer a b k.taken k'.taken h.0, h.1, h.2)
cut http.WriteFault a b k k' h = (longer a b k.taken k'.taken h.0, h.1, h.2)
cut http.Head a b k k' h = absurd h
cut (http.Status n) a b k k' h = absurd h
cut http.Route a b k k' h = absurd h
cut (http.Body n) a b k k' h = absurd h
cut (http.TooLong n) a b k k' h = absurd h
cut (http.Ended n) a b k k' h = absurd h
cut http.Idle a b k k' h = absurd h
cut http.ReadFault a b k k' h = absurd h

-- ---- puts

abbrev pub so_far : ℤ → List Kv → List ℕ
so_far created puts = begun created ++ put_lines puts

lines_more : (puts : List Kv) (kv : Kv) → put_lines (puts ++ kv ∷ []) ≡ put_lines puts ++ put_line kv
lines_more [] kv = append-nil (put_line kv)
lines_more (first ∷ puts) kv = ap (λ (t : List ℕ). put_line first ++ t) (lines_more puts kv) ∙ sym (append_assoc (put_line first) (put_lines puts) (put_line kv))

rise_more : (key : List ℕ) (from : ℕ) (puts : List Kv) (next : ℕ) (kv : Kv) → Rise key from puts next → IsPut key next kv → Rise key from (puts ++ kv ∷ []) (nat_abs kv.mod_revision + 1)
rise_more key from [] next kv rise put = (subst (λ (n : ℕ). IsPut key n kv) (sym rise) put, refl)
rise_more key from (first ∷ puts) next kv rise put = (rise.0, rise_more key (nat_abs first.mod_revision + 1) puts next kv rise.1 put)

-- A put that comes no earlier than one revision comes no earlier than one before it.
put_since : (key : List ℕ) (last next : ℕ) (kv : Kv) → last ≤ next → IsPut key next kv → IsPut key last kv
put_since key last next kv le put = let at = put.1 in (put.0, omega (arith, ints), put.2)

-- how far a stream came: every put before the next revision was told
pub record Came (key : List ℕ) (from next : ℕ) (k k' : SinkTold) : Type 0 where
  pub created : ℤ
  pub puts : List Kv
  pub last : ℕ
  pub rise : Rise key from puts last
  pub within : last ≤ next
  pub wrote : WroteFront (Ok tt) (so_far created puts) k k'

pub began : (key : List ℕ) (from : ℕ) (created : ℤ) (k k' : SinkTold) → WroteFront (Ok tt) (begun created) k k' → Came key from from k k'
began key from created k k' wrote = record {
  created = created;
  puts = [];
  last = from;
  rise = refl;
  within = omega arith;
  wrote = subst (λ (b : List ℕ). WroteFront (Ok tt) b k k') (sym (append-nil (begun created))) wrote;
}

pub more : (key : List ℕ) (from next : ℕ) (kv : Kv) (k m k' : SinkTold) → Came key from next k m → IsPut key next kv → WroteFront (Ok tt) (put_line kv) m k' → Came key from (nat_abs kv.mod_revision + 1) k k'
more key from next kv k m k' came put wrote = record {
  created = came.created;
  puts = came.puts ++ kv ∷ [];
  last = nat_abs kv.mod_revision + 1;
  rise = rise_more key from came.puts came.last kv came.rise (put_since key came.last next kv came.within put);
  within = omega arith;
  wrote =
      subst (λ (b : List ℕ). WroteFront (Ok tt) b k k')
      (append_assoc (begun came.created) (put_lines came.puts) (put_line kv) ∙ ap (λ (t : List ℕ). begun came.created ++ t) (sym (lines_more came.puts kv)))
      (both (Ok tt) (so_far came.created came.puts) (put_line kv) k m k' came.wrote wrote);
}

-- nothing was told up to a later revision
pub further : (key : List ℕ) (from next later : ℕ) (k k' : SinkTold) → Came key from next k k' → next ≤ later → Came key from later k k'
further key from next later k k' came le = record {
  created = came.created;
  puts = came.puts;
  last = came.last;
  rise = came.rise;
  within = omega (arith, came.within, le);
  wrote = came.wrote;
}

-- ---- how it ends

sent_whole : (r : Result (Unit {0}) HttpFault) (key : List ℕ) (from next : ℕ) (ending : List ℕ) (k m k' : SinkTold) (came : Came key from next k m) → IsEnding came.last ending → WroteFront r ending m k' → Streams r key from k k'
sent_whole r key from next ending k m k' came ends wrote = record {
  bytes = so_far came.created came.puts ++ ending;
  stream = record { created = came.created; puts = came.puts; next = came.last; ending = ending; rise = came.rise; ends = ends; bytes_are = refl };
  wrote = both r (so_far came.created came.puts) ending k m k' came.wrote wrote;
}

whole : (r : Result (Unit {0}) HttpFault) (key : List ℕ) (from : ℕ) (s s' : Told) (k k' : SinkTold) → Streams r key from k k' → Waits s s' → Watches (told_whole r) key from s s' k k'
whole (Ok u) key from s s' k k' streams waits = (streams, waits)
whole (Err f) key from s s' k k' streams waits = (streams, waits)

-- the store was closed
pub closed : (result : Result WatchEnd HttpFault) (r : Result (Unit {0}) HttpFault) (key : List ℕ) (from next : ℕ) (s s' : Told) (k m k' : SinkTold) → result ≡ told_whole r
    → Came key from next k m → Waits s s' → WroteFront r last_chunk m k' → Watches result key from s s' k k'
closed result r key from next s s' k m k' is came waits wrote =
    subst (λ (x : Result WatchEnd HttpFault). Watches x key from s s' k k') (sym is) (whole r key from s s' k k' (sent_whole r key from next last_chunk k m k' came (inl refl) wrote) waits)

-- the revision to go on from was compacted
pub canceled : (result : Result WatchEnd HttpFault) (r : Result (Unit {0}) HttpFault) (key : List ℕ) (from next : ℕ) (floor now : ℤ) (s s' : Told) (k m k' : SinkTold) → result ≡ told_whole r
    → Came key from next k m → Waits s s' → pos next <ℤ floor → WroteFront r (line_chunk (canceled_text floor now) ++ last_chunk) m k' → Watches result key from s s' k k'
canceled result r key from next floor now s s' k m k' is came waits below wrote =
    let within = came.within in
    let earlier : pos came.last <ℤ floor = omega (arith, ints) in
    subst (λ (x : Result WatchEnd HttpFault). Watches x key from s s' k k') (sym is)
    (whole r key from s s' k k' (sent_whole r key from next (line_chunk (canceled_text floor now) ++ last_chunk) k m k' came (inr (floor, now, earlier, refl)) wrote) waits)

-- the client left
pub left : (key : List ℕ) (from next : ℕ) (s here s' : Told) (k k' : SinkTold) → Came key from next k k' → Waits s here → Looks false here s' → Watches (Ok over.Left) key from s s' k k'
left key from next s here s' k k' came waits look =
    (record { created = came.created; puts = came.puts; next = came.last; rise = came.rise; wrote = came.wrote }, (here, waits, look))

-- a fault before the first put
pub unbegun : (f : HttpFault) (key : List ℕ) (from : ℕ) (created : ℤ) (s : Told) (k k' : SinkTold) → WroteFront (Err f) (begun created) k k' → Watches (Err f) key from s s k k'
unbegun f key from created s k k' wrote = (
  record {
    bytes = so_far created [] ++ last_chunk;
    stream = record { created = created; puts = []; next = from; ending = last_chunk; rise = refl; ends = inl refl; bytes_are = refl };
    wrote = cut f (so_far created []) last_chunk k k' (cut f (begun created) [] k k' wrote);
  },
  no_look s,
)

-- a fault at a put
pub broken : (f : HttpFault) (key : List ℕ) (from next : ℕ) (kv : Kv) (s s' : Told) (k m k' : SinkTold) → Came key from next k m → Waits s s' → IsPut key next kv → WroteFront (Err f) (put_line kv) m k' → Watches (Err f) key from s s' k k'
broken f key from next kv s s' k m k' came waits put wrote =
    let puts = came.puts ++ kv ∷ [] in
    let here : WroteFront (Err f) (so_far came.created puts) k k' =
    subst (λ (b : List ℕ). WroteFront (Err f) b k k')
    (append_assoc (begun came.created) (put_lines came.puts) (put_line kv) ∙ ap (λ (t : List ℕ). begun came.created ++ t) (sym (lines_more came.puts kv)))
    (both (Err f) (so_far came.created came.puts) (put_line kv) k m k' came.wrote wrote) in
    let since = put_since key came.last next kv came.within put in (
      record {
        bytes = so_far came.created puts ++ last_chunk;
        stream = record { created = came.created; puts = puts; next = nat_abs kv.mod_revision + 1; ending = last_chunk; rise = rise_more key from came.puts came.last kv came.rise since; ends = inl refl; bytes_are = refl };
        wrote = cut f (so_far came.created puts) last_chunk k k' here;
      },
      waits,
    )

-- memory ran out
pub starved : (key : List ℕ) (from next : ℕ) (s s' : Told) (k m : SinkTold) → Came key from next k m → Waits s s' → Watches (Err http.Memory) key from s s' k m
starved key from next s s' k m came waits = (
  record {
    bytes = so_far came.created came.puts ++ last_chunk;
    stream = record { created = came.created; puts = came.puts; next = came.last; ending = last_chunk; rise = came.rise; ends = inl refl; bytes_are = refl };
    wrote = both (Err http.Memory) (so_far came.created came.puts) last_chunk k m m came.wrote (starves last_chunk m m (refl, refl, refl));
  },
  waits,
)
