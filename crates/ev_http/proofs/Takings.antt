-- What was taken of a source, over calls in a row.
use Rattle.std.proofs.Common.{◌≡◌, ◌≢◌, ℕ, ◌+◌, ◌-◌, ◌<◌, ◌≤◌, Bool, false, cond, List, [], ◌∷◌, ◌++◌, length, Result, Ok, Err, IfErr, refl, sym, ap, ◌∙◌, subst, append_assoc, append-nil, length-append, take, get_or, arith}
use Rattle.std.proofs.lemmas.List.{take_more}
use Rattle.std.proofs.lemmas.List.Elements.{All-cons, All-nil, All-append}
use Rattle.zx_outside.specs.Counts.{one_more}
use Rattle.zx_outside.proofs.Streams.{Gives-nil, Gives-append}
use Rattle.ev_http.specs.declared.fault.HttpFault.{HttpFault}
use Rattle.ev_http.specs.declared.taking.Tally.{Tally}
use Rattle.zx_outside.specs.Reading.{HasNoFeed}
use Rattle.ev_http.specs.declared.taking.Piece.{Piece}
use Rattle.ev_http.specs.declared.taking.Piece.TheVariants as piece
use Rattle.ev_http.specs.declared.taking.Cut.TheVariants as cut
use Rattle.ev_http.specs.declared.fault.HttpFault.TheVariants as fault
use Rattle.ev_http.specs.Taking.{Told, Took, risen, is_read_fault, failed, IsLine, Grows, TakesPiece, TakesLine}

risen-risen : (a b c x : ℕ) → a ≤ b → b ≤ c → risen (c - b) (risen (b - a) x) ≡ risen (c - a) x
risen-risen a b c x ab bc = omega arith

pub risen-add : (a b x : ℕ) → risen b (risen a x) ≡ risen (a + b) x
risen-add a b x = omega arith

faults_join : (f : Bool) (a b c : ℕ) → b ≡ a → c ≡ cond f (one_more b) b → c ≡ cond f (one_more a) a
faults_join f a b c e h = h ∙ ap (λ n. cond f (one_more n) n) e

pub Took-none : (tally : Tally) (source : Told) → tally.turns ≤ 6000 → Took [] false tally tally source source
Took-none tally source within = record {
  gives = Gives-nil source.given source.left;
  taken = omega arith;
  waited = omega arith;
  within = within;
  idles = omega arith;
  faults = refl;
  named = refl;
}

pub Took-append : (a b : List ℕ) (faulty : Bool) (t t' t'' : Tally) (s s' s'' : Told) → Took a false t t' s s' → Took b faulty t' t'' s' s'' → Took (a ++ b) faulty t t'' s s''
Took-append a b faulty t t' t'' s s' s'' early late = record {
  gives = Gives-append a b _ _ _ _ _ _ early.gives late.gives;
  taken = late.taken ∙ ap (risen (length b)) early.taken ∙ risen-add (length a) (length b) t.taken ∙ ap (λ n. risen n t.taken) (sym (length-append a b));
  waited = omega (arith, early.waited, late.waited);
  within = late.within;
  idles = late.idles ∙ ap (risen (t''.turns - t'.turns)) early.idles ∙ risen-risen t.turns t'.turns t''.turns s.counts.idles early.waited late.waited;
  faults = faults_join faulty s.counts.faults s'.counts.faults s''.counts.faults early.faults late.faults;
  named = late.named ∙ early.named;
}

pub Took-same : (added : List ℕ) (faulty : Bool) (t t' t'' : Tally) (s s' s'' : Told) → faulty ≡ false → t'' ≡ t' → s'' ≡ s' → Took added false t t' s s' → Took added faulty t t'' s s''
Took-same added faulty t t' t'' s s' s'' calm tally source took = subst (λ (f : Bool). Took added f t t'' s s'') (sym calm) (subst (λ (x : Tally). Took added false t x s s'') (sym tally) (subst (λ (x : Told). Took added false t t' s x) (sym source) took))

pub failed-calm : {A : Type 0} (r : Result A HttpFault) → IfErr r (λ e. is_read_fault e ≡ false) → failed r ≡ false
failed-calm (Ok x) calm = refl
failed-calm (Err e) calm = calm

pub no_feed-nil : HasNoFeed []
no_feed-nil = All-nil (λ b. b ≢ 10)

pub no_feed-push : (bytes : List ℕ) (b : ℕ) → HasNoFeed bytes → b ≢ 10 → HasNoFeed (bytes ++ b ∷ [])
no_feed-push bytes b none other = All-append (λ x. x ≢ 10) bytes (b ∷ []) none (All-cons (λ x. x ≢ 10) b [] other no_feed-nil)

pub Grows-none : (line : List ℕ) (limit : ℕ) → Grows line [] line limit
Grows-none line limit = record { no_feed = no_feed-nil; grown = sym (append-nil line); short = omega arith }

pub grown_twice : (old first second mid new : List ℕ) → mid ≡ old ++ first → new ≡ mid ++ second → new ≡ old ++ (first ++ second)
grown_twice old first second mid new early late = late ∙ ap (λ xs. xs ++ second) early ∙ append_assoc old first second

piece_split : (bytes : List ℕ) (n : ℕ) → 0 < n → n ≤ length bytes → take n bytes ≡ take (n - 1) bytes ++ get_or bytes (n - 1) 0 ∷ []
piece_split bytes n some within =
    let e : n ≡ (n - 1) + 1 = omega (arith, some) in
    ap (λ k. take k bytes) e ∙ take_more bytes (n - 1) 0 (omega (arith, some, within))

-- the last byte of a piece tells whether it ends a line
pub piece_is_line : (bytes : List ℕ) (n : ℕ) → 0 < n → n ≤ length bytes → HasNoFeed (take (n - 1) bytes) → get_or bytes (n - 1) 0 ≡ 10 → IsLine (take n bytes)
piece_is_line bytes n some within none feed = (take (n - 1) bytes, none, piece_split bytes n some within ∙ ap (λ b. take (n - 1) bytes ++ b ∷ []) feed)

pub piece_has_no_feed : (bytes : List ℕ) (n : ℕ) → 0 < n → n ≤ length bytes → HasNoFeed (take (n - 1) bytes) → get_or bytes (n - 1) 0 ≢ 10 → HasNoFeed (take n bytes)
piece_has_no_feed bytes n some within none other = subst (λ (x : List ℕ). HasNoFeed x) (sym (piece_split bytes n some within)) (no_feed-push (take (n - 1) bytes) (get_or bytes (n - 1) 0) none other)

no_feed-append : (a b : List ℕ) → HasNoFeed a → HasNoFeed b → HasNoFeed (a ++ b)
no_feed-append a b = All-append (λ x. x ≢ 10) a b

line_append : (a b : List ℕ) → HasNoFeed a → IsLine b → IsLine (a ++ b)
line_append a b none line = (a ++ line.0, no_feed-append a line.0 none line.1, ap (λ x. a ++ x) line.2 ∙ sym (append_assoc a line.0 (10 ∷ [])))

Grows-append : (old added mid more new : List ℕ) (limit : ℕ) → Grows old added mid limit → HasNoFeed more → new ≡ mid ++ more → length mid + length more ≤ limit → Grows old (added ++ more) new limit
Grows-append old added mid more new limit grows none same room = record {
  no_feed = no_feed-append added more grows.no_feed none;
  grown = grown_twice old added more mid new grows.grown same;
  short = omega (arith, grows.short, room, ap length same, length-append mid more);
}

Grows-same : (old added mid more new : List ℕ) (limit : ℕ) → Grows old added mid limit → more ≡ [] → new ≡ mid → Grows old (added ++ more) new limit
Grows-same old added mid more new limit grows nothing same =
    subst (λ (x : List ℕ). Grows old (added ++ x) new limit) (sym nothing) (subst (λ (x : List ℕ). Grows old x new limit) (sym (append-nil added)) (subst (λ (x : List ℕ). Grows old added x limit) (sym same) grows))

-- what a line has become with a piece, by the piece's answer
abbrev pub LineAfter : Result Piece HttpFault → List ℕ → List ℕ → List ℕ → ℕ → Told → Tally → Type 0
LineAfter (Ok piece.Last) old added new limit source tally = TakesLine (Ok cut.LineFeed) old added new limit source tally
LineAfter (Ok piece.Part) old added new limit source tally = Grows old added new limit
LineAfter (Ok piece.End) old added new limit source tally = TakesLine (Ok cut.End) old added new limit source tally
LineAfter (Err e) old added new limit source tally = TakesLine (Err e) old added new limit source tally

pub line_after : (r : Result Piece HttpFault) (old first mid second new : List ℕ) (limit most : ℕ) (source : Told) (tally : Tally)
    → Grows old first mid limit → length mid + most ≤ limit → TakesPiece r mid second new most source tally → LineAfter r old (first ++ second) new limit source tally
line_after (Ok piece.Last) old first mid second new limit most source tally grows room took =
    (line_append first second grows.no_feed took.0, grown_twice old first second mid new grows.grown took.1, omega (arith, room, took.2, ap length took.1, length-append mid second))
line_after (Ok piece.Part) old first mid second new limit most source tally grows room took = Grows-append old first mid second new limit grows took.0 took.1 (omega (arith, room, took.2))
line_after (Ok piece.End) old first mid second new limit most source tally grows room took = (Grows-same old first mid second new limit grows took.0 took.1, took.2)
line_after (Err fault.Idle) old first mid second new limit most source tally grows room took = (Grows-same old first mid second new limit grows took.0 took.1, took.2)
line_after (Err fault.ReadFault) old first mid second new limit most source tally grows room took = Grows-same old first mid second new limit grows took.0 took.1
line_after (Err fault.Memory) old first mid second new limit most source tally grows room took = tt
line_after (Err fault.Head) old first mid second new limit most source tally grows room took = absurd took
line_after (Err (fault.Status n)) old first mid second new limit most source tally grows room took = absurd took
line_after (Err fault.Route) old first mid second new limit most source tally grows room took = absurd took
line_after (Err (fault.Body p)) old first mid second new limit most source tally grows room took = absurd took
line_after (Err (fault.TooLong n)) old first mid second new limit most source tally grows room took = absurd took
line_after (Err (fault.Ended n)) old first mid second new limit most source tally grows room took = absurd took
line_after (Err fault.WriteFault) old first mid second new limit most source tally grows room took = absurd took
