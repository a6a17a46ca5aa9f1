-- What a connection's actions leave: packets, and then one ask, or its end, or neither.
use Rattle.std.proofs.Common.{◌≡◌, ℕ, ◌+◌, List, [], ◌∷◌, ◌++◌, refl, sym, ap, ◌∙◌, arith, Bool, true, false, append_assoc, append-nil}
use Rattle.std.specs.Prelude.{Option, Some, None, ◌&&◌, ◌==◌, fold, map, if◌then◌else◌}
use Rattle.std.specs.List.{list_all}
use Rattle.std.proofs.lemmas.Bool.Decides.{nat_tests}
use Rattle.ev_types.specs.declared.ask.Ask.{Ask}
use Rattle.zk_transcript.specs.Walks.{Due, packets_from}
use Rattle.zk_service.specs.declared.cause.Cause.{Cause}
use Rattle.zk_service.specs.declared.cause.Ended.TheVariants as ended
use Rattle.zk_transcript.specs.declared.transcript.TranscriptLine.{TranscriptLine}
use Rattle.zk_transcript.specs.declared.transcript.TranscriptLine.TheVariants.{Send, Close}
use Rattle.zk_service.specs.declared.update.UpdateKind.{UpdateKind}
use Rattle.zp_step.specs.declared.action.Action.{Action}
use Rattle.zp_step.specs.declared.action.Action.TheVariants as action
use Rattle.zp_step.specs.Ending.{asked_by, closes, ends_well, is_end, sends}
use Rattle.zp_script.specs.StepOutcomes.{StepOutcome, acts, acts_all, left_by, quiet}
use Rattle.zp_script.specs.declared.flight.Flight.{Flight}
use Rattle.zp_script.specs.declared.flight.Flight.TheVariants.{Out}

pub data Tail : Type 0 where
  Rests : Tail
  Asks : (a : Ask) → Tail
  Closes : (why : Cause) → Tail

abbrev pub actions : Tail → List Action
actions Rests = []
actions (Asks a) = action.Ask a ∷ []
actions (Closes why) = action.Close why ∷ []

abbrev pub asked_in : Tail → Option Ask
asked_in Rests = None
asked_in (Asks a) = Some a
asked_in (Closes why) = None

abbrev pub is_closing : Tail → Bool
is_closing Rests = false
is_closing (Asks a) = false
is_closing (Closes why) = true

abbrev pub sent_first : List (List ℕ) → List Action
sent_first ps = map (λ (b : List ℕ). action.Send b) ps

abbrev pub said : ℕ → List (List ℕ) → List TranscriptLine
said c ps = map (λ (b : List ℕ). Send c b) ps

pub record Split (out : List Action) : Type 0 where
  pub packets : List (List ℕ)
  pub tail : Tail
  pub is : out ≡ sent_first packets ++ actions tail

end-is : (more : List Action) → is_end more ≡ true → more ≡ []
end-is [] h = refl
end-is (a ∷ more) h = absurd (cc)

pub split : (out : List Action) → ends_well out ≡ true → Split out
split [] h = record { packets = []; tail = Rests; is = refl }
split (action.Send b ∷ more) h = let s = split more h in record { packets = b ∷ s.packets; tail = s.tail; is = ap (λ l. action.Send b ∷ l) s.is }
split (action.Ask a ∷ more) h = record { packets = []; tail = Asks a; is = ap (λ l. action.Ask a ∷ l) (end-is more h) }
split (action.Close why ∷ more) h = record { packets = []; tail = Closes why; is = ap (λ l. action.Close why ∷ l) (end-is more h) }

tail-sends : (ps : List (List ℕ)) (t : Tail) → sends (sent_first ps ++ actions t) ≡ ps
tail-sends [] Rests = refl
tail-sends [] (Asks a) = refl
tail-sends [] (Closes why) = refl
tail-sends (p ∷ ps) t = ap (λ l. p ∷ l) (tail-sends ps t)

tail-asked : (ps : List (List ℕ)) (t : Tail) → asked_by (sent_first ps ++ actions t) ≡ asked_in t
tail-asked [] Rests = refl
tail-asked [] (Asks a) = refl
tail-asked [] (Closes why) = refl
tail-asked (p ∷ ps) t = tail-asked ps t

tail-closes : (ps : List (List ℕ)) (t : Tail) → closes (sent_first ps ++ actions t) ≡ is_closing t
tail-closes [] Rests = refl
tail-closes [] (Asks a) = refl
tail-closes [] (Closes why) = refl
tail-closes (p ∷ ps) t = tail-closes ps t

pub split-sends : (out : List Action) (s : Split out) → sends out ≡ s.packets
split-sends out s = ap sends s.is ∙ tail-sends s.packets s.tail

pub split-asked : (out : List Action) (s : Split out) → asked_by out ≡ asked_in s.tail
split-asked out s = ap asked_by s.is ∙ tail-asked s.packets s.tail

pub split-closes : (out : List Action) (s : Split out) → closes out ≡ is_closing s.tail
split-closes out s = ap closes s.is ∙ tail-closes s.packets s.tail

-- ---- what they leave

abbrev pub tail_outcome : ℕ → Option UpdateKind → List TranscriptLine → Option Flight → List TranscriptLine → Tail → StepOutcome
tail_outcome c kind after flight lines Rests = record { flight = flight; lines = lines; strays = [] }
tail_outcome c kind after flight lines (Asks a) = record { flight = Some (Out (record { ask = a; kind = kind })); lines = lines; strays = [] }
tail_outcome c kind after flight lines (Closes why) = record { flight = None; lines = lines ++ after ++ Close c (ended.Cause why) ∷ []; strays = left_by flight }

fold-sends : (c : ℕ) (kind : Option UpdateKind) (after : List TranscriptLine) (flight : Option Flight) (lines : List TranscriptLine) (ps : List (List ℕ)) (t : Tail)
    → fold (acts c kind after) (record { flight = flight; lines = lines; strays = [] }) (sent_first ps ++ actions t) ≡ tail_outcome c kind after flight (lines ++ said c ps) t
fold-sends c kind after flight lines [] Rests = ap (λ l. tail_outcome c kind after flight l Rests) (sym (append-nil lines))
fold-sends c kind after flight lines [] (Asks a) = ap (λ l. tail_outcome c kind after flight l (Asks a)) (sym (append-nil lines))
fold-sends c kind after flight lines [] (Closes why) = ap (λ l. tail_outcome c kind after flight l (Closes why)) (sym (append-nil lines))
fold-sends c kind after flight lines (p ∷ ps) t =
    fold-sends c kind after flight (lines ++ Send c p ∷ []) ps t ∙ ap (λ l. tail_outcome c kind after flight l t) (append_assoc lines (Send c p ∷ []) (said c ps))

pub split-outcome : (c : ℕ) (kind : Option UpdateKind) (after : List TranscriptLine) (flight : Option Flight) (out : List Action) (s : Split out) → acts_all c kind after flight out ≡ tail_outcome c kind after flight (said c s.packets) s.tail
split-outcome c kind after flight out s = ap (fold (acts c kind after) (quiet flight)) s.is ∙ fold-sends c kind after flight [] s.packets s.tail

-- ---- its packets are what was sent

pub said-packets : (c k : ℕ) (ps : List (List ℕ)) → map (λ (d : Due). d.1) (packets_from c k (said c ps)) ≡ ps
said-packets c k [] = refl
said-packets c k (p ∷ ps) =
    let s : (c == c) ≡ true = grind (arith, nat_tests) in
    ap (λ b. map (λ (d : Due). d.1) (if b then (k, p) ∷ packets_from c (k + 1) (said c ps) else packets_from c (k + 1) (said c ps))) s ∙ ap (λ l. p ∷ l) (said-packets c (k + 1) ps)

-- packets of c
abbrev pub is_speech : ℕ → TranscriptLine → Bool
is_speech c (Send d bytes) = c == d
is_speech c _ = false

pub said-speech : (c : ℕ) (ps : List (List ℕ)) → list_all (is_speech c) (said c ps) ≡ true
said-speech c [] = refl
said-speech c (p ∷ ps) = let s : (c == c) ≡ true = grind (arith, nat_tests) in ap (λ b. b && list_all (is_speech c) (said c ps)) s ∙ said-speech c ps
