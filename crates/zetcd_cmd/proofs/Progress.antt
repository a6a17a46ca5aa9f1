-- From piece to piece of a script.
use Rattle.std.proofs.Common.{◌≡◌, ℕ, ◌+◌, ◌-◌, ◌^◌, ◌<◌, ◌≤◌, ◌==◌, ◌⊎◌, ⊎_elim, min, false, List, [], ◌∷◌, ◌++◌, length, take, drop, suc, refl, sym, ap, ◌∙◌, subst, arith, append_assoc, append-nil, length-append, inl, inr}
use Rattle.std.specs.Prelude.{Some, None}
use Rattle.std.proofs.lemmas.List.{take-append-drop}
use Rattle.std.proofs.lemmas.List.Elements.{All-append, All-nil}
use Rattle.zt_text.specs.declared.script.Happening.{Happening}
use Rattle.zt_text.specs.declared.script.Unread.{Unread}
use Rattle.zt_text.specs.declared.script.Unread.TheVariants.{Unreadable, TooLong}
use Rattle.zt_text.specs.Scripts.{Script as Reading, then_script, last_happening, happening_read, max_line, max_script, script, script_from}
use Rattle.zp_script.specs.Worlds.{World}
use Rattle.zp_script.specs.Faults.{fault}
use Rattle.zetcd_cmd.specs.Reached.{Reached}
use Rattle.zetcd_cmd.specs.declared.script.Script.{Script}
use Rattle.zetcd_cmd.specs.declared.script.Stop.{Stop}
use Rattle.zetcd_cmd.specs.declared.script.Stop.TheVariants as stop
use Rattle.zetcd_cmd.specs.Replayed.{IsOver}
use Rattle.zetcd_cmd.specs.Scripting.{HasNoLineFeed, Plays, ScriptHalts, IsKeptOut, ScriptSays, with_first, HasRead, ScriptStands, IsApplied, ScriptEnds, EndsEarly, IsOverAt}
use Rattle.zetcd_cmd.proofs.ScriptLaws.{Says-line, script_from-line, line_read-long, script_from-long, script_from-last, script_from-cut}

abbrev no_line_feed : ℕ → Type 0
no_line_feed b = (b == 10) ≡ false

script-from : (bytes : List ℕ) → script bytes ≡ script_from 1 max_script bytes
unfolding script
script-from bytes = refl

-- what whole lines say alone
script-says : (lines : List ℕ) (happenings : List Happening) → ScriptSays lines happenings → length lines ≤ max_script → script lines ≡ (happenings, None)
script-says lines happenings says fits =
    script-from lines ∙ ap (script_from 1 max_script) (sym (append-nil lines))
    ∙ script_from-last max_script lines [] happenings says (All-nil no_line_feed) (omega arith)
    ∙ ap (λ (all : List Happening). (all, None)) (append-nil happenings)

-- ---- why a line is not applied

pub Halts-kept_out : (line : List ℕ) (w : World) (why : Stop) → IsKeptOut line why → ScriptHalts line w why w
Halts-kept_out line w (stop.Unread why) out = (out.0, line_read-long line out.1, refl)
Halts-kept_out line w (stop.Refused why) out = absurd out
Halts-kept_out line w stop.Memory out = tt {0}

-- a line that stands next in the script was not applied
Ends-at : (input line : List ℕ) (happenings : List Happening) (later : Reading) (w : World) (new : Script) (why : Stop) → Reached happenings w → new.line ≡ length happenings + 1 →
    script input ≡ with_first happenings (then_script (length happenings + 1) (happening_read line) later) → ScriptHalts line w why new.world → ScriptEnds input new why
Ends-at input line happenings later w new (stop.Unread why) reached number read halts = record {
  before = happenings;
  later = [];
  end = Some (length happenings + 1, Unreadable);
  reached = subst (λ (v : World). Reached happenings v) (sym halts.2) reached;
  number = number;
  read = read ∙ ap (λ o. with_first happenings (then_script (length happenings + 1) o later)) halts.1;
  against = let why_is = halts.0 in (why, ap (λ (n : ℕ). Some (n, Unreadable)) (sym number) ∙ ap (λ (u : Unread). Some (new.line, u)) (sym why_is), refl);
}
Ends-at input line happenings later w new (stop.Refused why) reached number read halts = record {
  before = happenings;
  later = halts.0 ∷ later.0;
  end = later.1;
  reached = subst (λ (v : World). Reached happenings v) (sym halts.3) reached;
  number = number;
  read = read ∙ ap (λ o. with_first happenings (then_script (length happenings + 1) o later)) halts.1;
  against = (why, subst (λ (v : World). fault v halts.0 ≡ Some why) (sym halts.3) halts.2, refl);
}
Ends-at input line happenings later w new stop.Memory reached number read halts = tt {0}

-- ---- a line that ends

-- bytes that follow what is pending
after_pending : (seen lines pending later : List ℕ) → seen ≡ lines ++ pending → seen ++ later ≡ lines ++ (pending ++ later)
after_pending seen lines pending later parts = ap (λ t. t ++ later) parts ∙ append_assoc lines pending later

line_after : (seen lines pending bytes rest : List ℕ) → seen ≡ lines ++ pending → seen ++ (bytes ++ 10 ∷ rest) ≡ lines ++ ((pending ++ bytes) ++ 10 ∷ rest)
line_after seen lines pending bytes rest parts =
    after_pending seen lines pending (bytes ++ 10 ∷ rest) parts ∙ ap (λ t. lines ++ t) (sym (append_assoc pending bytes (10 ∷ rest)))

-- how much was read
length-after : (seen lines pending bytes : List ℕ) → seen ≡ lines ++ pending → length (seen ++ bytes) ≡ length lines + length (pending ++ bytes)
length-after seen lines pending bytes parts = ap length (after_pending seen lines pending bytes parts) ∙ length-append lines (pending ++ bytes)

pub HasRead-line : (seen bytes : List ℕ) (old new : Script) → HasNoLineFeed bytes → Plays (old.pending.items ++ bytes) old.world new.world → new.pending.items ≡ [] →
    new.line ≡ min (old.line + 1) (2 ^ 64 - 1) → HasRead seen old → length (seen ++ bytes) < max_script → HasRead (seen ++ (bytes ++ 10 ∷ [])) new
HasRead-line seen bytes old new lacks plays empty next r fits =
    let line = old.pending.items ++ bytes in
    let text = seen ++ (bytes ++ 10 ∷ []) in
    let applied = plays.1 r.happenings r.reached in
    let many = r.says.many in
    let size = length-after seen r.lines old.pending.items bytes r.parts in
    let count : length (r.happenings ++ applied.0 ∷ []) ≡ length r.happenings + 1 = length-append r.happenings (applied.0 ∷ []) in
    let number = r.number in
    record {
      lines = text;
      happenings = r.happenings ++ applied.0 ∷ [];
      says = Says-line r.lines line text r.happenings applied.0 r.says (All-append no_line_feed old.pending.items bytes r.begun lacks) applied.1 (line_after seen r.lines old.pending.items bytes [] r.parts);
      parts = sym (ap (λ p. text ++ p) empty ∙ append-nil text);
      begun = subst HasNoLineFeed (sym empty) (All-nil no_line_feed);
      short = rw empty (omega arith);
      number = next ∙ omega arith;
      reached = applied.2;
    }

pub Ends-line : (seen bytes rest : List ℕ) (old new : Script) (why : Stop) → HasNoLineFeed bytes → ScriptHalts (old.pending.items ++ bytes) old.world why new.world → new.line ≡ old.line →
    HasRead seen old → length (seen ++ bytes) < max_script → ScriptEnds (seen ++ (bytes ++ 10 ∷ rest)) new why
Ends-line seen bytes rest old new why lacks halts same r fits =
    let line = old.pending.items ++ bytes in
    let size = length-after seen r.lines old.pending.items bytes r.parts in
    let at = script_from-line max_script r.lines line rest r.happenings r.says (All-append no_line_feed old.pending.items bytes r.begun lacks) (omega arith) in
    let input = seen ++ (bytes ++ 10 ∷ rest) in
    Ends-at input line r.happenings at.0 old.world new why r.reached (same ∙ r.number)
    (script-from input ∙ ap (script_from 1 max_script) (line_after seen r.lines old.pending.items bytes rest r.parts) ∙ at.1) halts

-- ---- a line that goes on

pub HasRead-begun : (seen bytes : List ℕ) (old new : Script) → HasNoLineFeed bytes → new.pending.items ≡ old.pending.items ++ bytes → length new.pending.items ≤ max_line →
    new.world ≡ old.world → new.line ≡ old.line → HasRead seen old → HasRead (seen ++ bytes) new
HasRead-begun seen bytes old new lacks grown short world line r = record {
  lines = r.lines;
  happenings = r.happenings;
  says = r.says;
  parts = after_pending seen r.lines old.pending.items bytes r.parts ∙ ap (λ p. r.lines ++ p) (sym grown);
  begun = subst HasNoLineFeed (sym grown) (All-append no_line_feed old.pending.items bytes r.begun lacks);
  short = short;
  number = line ∙ r.number;
  reached = subst (λ (v : World). Reached r.happenings v) (sym world) r.reached;
}

pub Ends-begun : (seen bytes rest : List ℕ) (old new : Script) (why : Stop) → HasNoLineFeed bytes → IsKeptOut (old.pending.items ++ bytes) why → new.world ≡ old.world → new.line ≡ old.line →
    HasRead seen old → length (seen ++ bytes) ≤ max_script → ScriptEnds ((seen ++ bytes) ++ rest) new why
Ends-begun seen bytes rest old new (stop.Unread why) lacks out world line r fits =
    let begun = old.pending.items ++ bytes in
    let size = length-after seen r.lines old.pending.items bytes r.parts in
    let input = (seen ++ bytes) ++ rest in
    let place : input ≡ r.lines ++ (begun ++ rest) =
    ap (λ t. t ++ rest) (after_pending seen r.lines old.pending.items bytes r.parts) ∙ append_assoc r.lines begun rest in
    record {
      before = r.happenings;
      later = [];
      end = Some (length r.happenings + 1, Unreadable);
      reached = subst (λ (v : World). Reached r.happenings v) (sym world) r.reached;
      number = line ∙ r.number;
      read = script-from input ∙ ap (script_from 1 max_script) place
          ∙ script_from-long max_script r.lines begun rest r.happenings r.says (All-append no_line_feed old.pending.items bytes r.begun lacks) out.1 (omega arith)
          ∙ ap (λ (hs : List Happening). (hs, Some (length r.happenings + 1, Unreadable))) (sym (append-nil r.happenings));
      against = (why, ap (λ (n : ℕ). Some (n, Unreadable)) (sym (line ∙ r.number)) ∙ ap (λ (u : Unread). Some (new.line, u)) (sym out.0), refl);
    }
Ends-begun seen bytes rest old new (stop.Refused why) lacks out world line r fits = absurd out
Ends-begun seen bytes rest old new stop.Memory lacks out world line r fits = tt {0}

-- ---- the lines of a piece, one after the other

-- some lines of these bytes were applied, and this is the rest of them
abbrev pub Goes : Script → List ℕ → Script → List ℕ → Type 0
Goes old bytes now rest = (seen : List ℕ) → HasRead seen old → length (seen ++ bytes) ≤ max_script → (done : List ℕ) × HasRead done now × (seen ++ bytes ≡ done ++ rest)

-- what is left of the room, when a line ends within it
line_fits : (whole done line later : List ℕ) → whole ≡ done ++ (line ++ 10 ∷ later) → length whole ≤ max_script → length (done ++ line) < max_script
line_fits whole done line later parts fits =
    let size : length whole ≡ length done + (length line + suc (length later)) =
    ap length parts ∙ length-append done (line ++ 10 ∷ later) ∙ ap (λ n. length done + n) (length-append line (10 ∷ later)) in
    rw (length-append done line) (omega arith)

pub Goes-line : (old now new : Script) (bytes rest line later : List ℕ) → rest ≡ line ++ 10 ∷ later →
    ((seen : List ℕ) → HasRead seen now → length (seen ++ line) < max_script → HasRead (seen ++ (line ++ 10 ∷ [])) new) → Goes old bytes now rest → Goes old bytes new later
Goes-line old now new bytes rest line later parts one goes seen r fits =
    let far = goes seen r fits in
    let whole : seen ++ bytes ≡ far.0 ++ (line ++ 10 ∷ later) = far.2 ∙ ap (λ t. far.0 ++ t) parts in (
      far.0 ++ (line ++ 10 ∷ []),
      one far.0 far.1 (line_fits (seen ++ bytes) far.0 line later whole fits),
      whole ∙ ap (λ t. far.0 ++ t) (sym (append_assoc line (10 ∷ []) later)) ∙ sym (append_assoc far.0 (line ++ 10 ∷ []) later),
    )

pub Goes-halts : (old now new : Script) (bytes rest line later : List ℕ) (why : Stop) → rest ≡ line ++ 10 ∷ later →
    ((seen after : List ℕ) → HasRead seen now → length (seen ++ line) < max_script → ScriptEnds (seen ++ (line ++ 10 ∷ after)) new why) → Goes old bytes now rest →
    (seen after : List ℕ) → HasRead seen old → length (seen ++ bytes) ≤ max_script → ScriptEnds ((seen ++ bytes) ++ after) new why
Goes-halts old now new bytes rest line later why parts one goes seen after r fits =
    let far = goes seen r fits in
    let whole : seen ++ bytes ≡ far.0 ++ (line ++ 10 ∷ later) = far.2 ∙ ap (λ t. far.0 ++ t) parts in
    let place : (seen ++ bytes) ++ after ≡ far.0 ++ (line ++ 10 ∷ (later ++ after)) =
    ap (λ t. t ++ after) whole ∙ append_assoc far.0 (line ++ 10 ∷ later) after ∙ ap (λ t. far.0 ++ t) (append_assoc line (10 ∷ later) after) in
    subst (λ (t : List ℕ). ScriptEnds t new why) (sym place) (one far.0 (later ++ after) far.1 (line_fits (seen ++ bytes) far.0 line later whole fits))

pub Goes-begun : (old now new : Script) (bytes rest : List ℕ) → HasNoLineFeed rest → new.pending.items ≡ now.pending.items ++ rest → length new.pending.items ≤ max_line →
    new.world ≡ now.world → new.line ≡ now.line → Goes old bytes now rest → (seen : List ℕ) → HasRead seen old → length (seen ++ bytes) ≤ max_script → HasRead (seen ++ bytes) new
Goes-begun old now new bytes rest lacks grown short world line goes seen r fits =
    let far = goes seen r fits in
    subst (λ (t : List ℕ). HasRead t new) (sym far.2) (HasRead-begun far.0 rest now new lacks grown short world line far.1)

pub Goes-kept_out : (old now new : Script) (bytes rest : List ℕ) (why : Stop) → HasNoLineFeed rest → IsKeptOut (now.pending.items ++ rest) why → new.world ≡ now.world → new.line ≡ now.line →
    Goes old bytes now rest → (seen after : List ℕ) → HasRead seen old → length (seen ++ bytes) ≤ max_script → ScriptEnds ((seen ++ bytes) ++ after) new why
Goes-kept_out old now new bytes rest why lacks out world line goes seen after r fits =
    let far = goes seen r fits in
    subst (λ (t : List ℕ). ScriptEnds (t ++ after) new why) (sym far.2)
    (Ends-begun far.0 rest after now new why lacks out world line far.1 (subst (λ (t : List ℕ). length t ≤ max_script) far.2 fits))

-- ---- whole pieces

piece_fits : (seen piece : List ℕ) (room : ℕ) → length seen + room ≡ max_script → length piece ≤ room → length (seen ++ piece) ≤ max_script
piece_fits seen piece room left fits = rw (length-append seen piece) (omega arith)

pub Ends-piece : (seen piece rest : List ℕ) (old new : Script) (why : Stop) → length piece ≤ old.room →
    ((seen after : List ℕ) → HasRead seen old → length (seen ++ piece) ≤ max_script → ScriptEnds ((seen ++ piece) ++ after) new why) → ScriptStands seen old → ScriptEnds ((seen ++ piece) ++ rest) new why
Ends-piece seen piece rest old new why fits one s = one seen rest s.read (piece_fits seen piece old.room s.room fits)

-- a piece that has more bytes than may come
front_place : (seen piece rest : List ℕ) (room : ℕ) → (seen ++ piece) ++ rest ≡ (seen ++ take room piece) ++ (drop room piece ++ rest)
front_place seen piece rest room =
    ap (λ t. (seen ++ t) ++ rest) (sym (take-append-drop room piece))
    ∙ ap (λ t. t ++ rest) (sym (append_assoc seen (take room piece) (drop room piece)))
    ∙ append_assoc (seen ++ take room piece) (drop room piece) rest

pub Ends-front : (seen piece front rest : List ℕ) (old new : Script) (why : Stop) → front ≡ take old.room piece → length front ≤ old.room →
    ((seen after : List ℕ) → HasRead seen old → length (seen ++ front) ≤ max_script → ScriptEnds ((seen ++ front) ++ after) new why) → ScriptStands seen old → ScriptEnds ((seen ++ piece) ++ rest) new why
Ends-front seen piece front rest old new why front_is fits one s =
    subst (λ (t : List ℕ). ScriptEnds t new why) (sym (front_place seen piece rest old.room ∙ ap (λ t. (seen ++ t) ++ (drop old.room piece ++ rest)) (sym front_is)))
    (Ends-piece seen front (drop old.room piece ++ rest) old new why fits one s)

-- all bytes that a script may have came, and one more
Ends-cut : (seen rest : List ℕ) (s : Script) → HasRead seen s → length seen ≡ max_script → 0 < length rest → ScriptEnds (seen ++ rest) s (stop.Unread TooLong)
Ends-cut seen rest s r full more =
    let size : length seen ≡ length r.lines + length s.pending.items = ap length r.parts ∙ length-append r.lines s.pending.items in
    record {
      before = r.happenings;
      later = [];
      end = Some (length r.happenings + 1, TooLong);
      reached = r.reached;
      number = r.number;
      read = script-from (seen ++ rest) ∙ ap (script_from 1 max_script) (after_pending seen r.lines s.pending.items rest r.parts)
          ∙ script_from-cut max_script r.lines s.pending.items rest r.happenings r.says r.begun r.short (sym size ∙ full) more
          ∙ ap (λ (hs : List Happening). (hs, Some (length r.happenings + 1, TooLong))) (sym (append-nil r.happenings));
      against = (TooLong, ap (λ (n : ℕ). Some (n, TooLong)) (sym r.number), refl);
    }

pub Ends-over : (seen piece front rest : List ℕ) (old new : Script) → front ≡ take old.room piece → length front ≡ old.room → old.room < length piece →
    ((seen : List ℕ) → HasRead seen old → length (seen ++ front) ≤ max_script → HasRead (seen ++ front) new) → ScriptStands seen old → ScriptEnds ((seen ++ piece) ++ rest) new (stop.Unread TooLong)
Ends-over seen piece front rest old new front_is full more one s =
    let left = s.room in
    let size : length (seen ++ front) ≡ max_script = rw (length-append seen front) (omega arith) in
    let parts : length piece ≡ length front + length (drop old.room piece) =
    ap length (sym (take-append-drop old.room piece) ∙ ap (λ t. t ++ drop old.room piece) (sym front_is)) ∙ length-append front (drop old.room piece) in
    subst (λ (t : List ℕ). ScriptEnds t new (stop.Unread TooLong)) (sym (front_place seen piece rest old.room ∙ ap (λ t. (seen ++ t) ++ (drop old.room piece ++ rest)) (sym front_is)))
    (Ends-cut (seen ++ front) (drop old.room piece ++ rest) new (one seen s.read (omega arith)) size (rw (length-append (drop old.room piece) rest) (omega arith)))

-- ---- the end of a script

last_line-some : (n : ℕ) (line : List ℕ) → 0 < length line → last_happening false n line ≡ then_script n (happening_read line) ([], None)
last_line-some n [] some = absurd (omega arith)
last_line-some n (b ∷ bs) some = refl

-- what is read of it all
script-seen : (seen : List ℕ) (s : Script) (r : HasRead seen s) → length seen ≤ max_script → script seen ≡ with_first r.happenings (last_happening false (length r.happenings + 1) s.pending.items)
script-seen seen s r fits =
    let size : length seen ≡ length r.lines + length s.pending.items = ap length r.parts ∙ length-append r.lines s.pending.items in
    script-from seen ∙ ap (script_from 1 max_script) r.parts ∙ script_from-last max_script r.lines s.pending.items r.happenings r.says r.begun (omega arith)

pub IsApplied-whole : (seen : List ℕ) (s : Script) → s.pending.items ≡ [] → ScriptStands seen s → IsApplied seen s
IsApplied-whole seen s empty st =
    let left = st.room in
    let hs = st.read.happenings in
    record {
      happenings = hs;
      reached = st.read.reached;
      read = script-seen seen s st.read (omega arith) ∙ ap (λ p. with_first hs (last_happening false (length hs + 1) p)) empty ∙ ap (λ (all : List Happening). (all, None)) (append-nil hs);
    }

pub IsApplied-line : (seen : List ℕ) (old new : Script) → 0 < length old.pending.items → Plays old.pending.items old.world new.world → ScriptStands seen old → IsApplied seen new
IsApplied-line seen old new some plays st =
    let left = st.room in
    let hs = st.read.happenings in
    let applied = plays.1 hs st.read.reached in
    record {
      happenings = hs ++ applied.0 ∷ [];
      reached = applied.2;
      read = script-seen seen old st.read (omega arith)
          ∙ ap (with_first hs) (last_line-some (length hs + 1) old.pending.items some)
          ∙ ap (λ o. with_first hs (then_script (length hs + 1) o ([], None))) applied.1;
    }

pub Ends-last : (seen : List ℕ) (old new : Script) (why : Stop) → 0 < length old.pending.items → ScriptHalts old.pending.items old.world why new.world → new.line ≡ old.line → ScriptStands seen old → ScriptEnds seen new why
Ends-last seen old new why some halts same st =
    let left = st.room in
    let hs = st.read.happenings in
    Ends-at seen old.pending.items hs ([], None) old.world new why st.read.reached (same ∙ st.read.number)
    (script-seen seen old st.read (omega arith) ∙ ap (with_first hs) (last_line-some (length hs + 1) old.pending.items some)) halts

-- what the lines say that were applied
pub script-lines : (seen : List ℕ) (s : Script) (st : ScriptStands seen s) → script st.read.lines ≡ (st.read.happenings, None)
script-lines seen s st =
    let r = st.read in
    let left = st.room in
    let size : length seen ≡ length r.lines + length s.pending.items = ap length r.parts ∙ length-append r.lines s.pending.items in
    script-says r.lines r.happenings r.says (omega arith)

-- ---- a line that is over

-- with its line feed
pub IsOver-line : (seen bytes rest : List ℕ) (old : Script) (n : ℕ) → n ≡ old.line → HasRead seen old → length (seen ++ bytes) < max_script → IsOver (seen ++ (bytes ++ 10 ∷ rest)) n
IsOver-line seen bytes rest old n same r fits =
    let size = length-after seen r.lines old.pending.items bytes r.parts in
    record {
      lines = r.lines;
      rest = (old.pending.items ++ bytes) ++ 10 ∷ rest;
      parts = line_after seen r.lines old.pending.items bytes rest r.parts;
      whole = r.says.whole;
      happenings = r.happenings;
      says = script-says r.lines r.happenings r.says (omega arith);
      number = same ∙ r.number;
      over = inl (old.pending.items ++ bytes, rest, refl);
    }

-- longer than a line may be
IsOver-long : (seen bytes : List ℕ) (old : Script) (n : ℕ) → n ≡ old.line → HasRead seen old → length (seen ++ bytes) ≤ max_script → max_line < length (old.pending.items ++ bytes) → IsOver (seen ++ bytes) n
IsOver-long seen bytes old n same r fits long =
    let size = length-after seen r.lines old.pending.items bytes r.parts in
    record {
      lines = r.lines;
      rest = old.pending.items ++ bytes;
      parts = after_pending seen r.lines old.pending.items bytes r.parts;
      whole = r.says.whole;
      happenings = r.happenings;
      says = script-says r.lines r.happenings r.says (omega arith);
      number = same ∙ r.number;
      over = inr (inl long);
    }

-- in a script that has more bytes than it may have
IsOver-script : (seen rest : List ℕ) (s : Script) → HasRead seen s → length seen ≡ max_script → 0 < length rest → IsOver (seen ++ rest) s.line
IsOver-script seen rest s r full more =
    let size : length seen ≡ length r.lines + length s.pending.items = ap length r.parts ∙ length-append r.lines s.pending.items in
    record {
      lines = r.lines;
      rest = s.pending.items ++ rest;
      parts = after_pending seen r.lines s.pending.items rest r.parts;
      whole = r.says.whole;
      happenings = r.happenings;
      says = script-says r.lines r.happenings r.says (omega arith);
      number = r.number;
      over = inr (inr (rw (length-append seen rest) (omega arith)));
    }

over_at : (read : List ℕ) (s : Script) (why : Stop) → IsOver read s.line → IsOverAt read s why
over_at read s (stop.Unread why) over = over
over_at read s (stop.Refused why) over = over
over_at read s stop.Memory over = tt {0}

pub Over-halts : (old now new : Script) (bytes rest line later : List ℕ) (why : Stop) → rest ≡ line ++ 10 ∷ later →
    ((seen after : List ℕ) → HasRead seen now → length (seen ++ line) < max_script → IsOver (seen ++ (line ++ 10 ∷ after)) new.line) → Goes old bytes now rest →
    (seen : List ℕ) → HasRead seen old → length (seen ++ bytes) ≤ max_script → IsOverAt (seen ++ bytes) new why
Over-halts old now new bytes rest line later why parts one goes seen r fits =
    let far = goes seen r fits in
    let whole : seen ++ bytes ≡ far.0 ++ (line ++ 10 ∷ later) = far.2 ∙ ap (λ t. far.0 ++ t) parts in
    over_at (seen ++ bytes) new why (subst (λ (t : List ℕ). IsOver t new.line) (sym whole) (one far.0 later far.1 (line_fits (seen ++ bytes) far.0 line later whole fits)))

kept_out_over : (seen rest : List ℕ) (now new : Script) (why : Stop) → IsKeptOut (now.pending.items ++ rest) why → new.line ≡ now.line → HasRead seen now → length (seen ++ rest) ≤ max_script →
    IsOverAt (seen ++ rest) new why
kept_out_over seen rest now new (stop.Unread why) out line r fits = IsOver-long seen rest now new.line line r fits out.1
kept_out_over seen rest now new (stop.Refused why) out line r fits = absurd out
kept_out_over seen rest now new stop.Memory out line r fits = tt {0}

pub Over-kept_out : (old now new : Script) (bytes rest : List ℕ) (why : Stop) → IsKeptOut (now.pending.items ++ rest) why → new.line ≡ now.line →
    Goes old bytes now rest → (seen : List ℕ) → HasRead seen old → length (seen ++ bytes) ≤ max_script → IsOverAt (seen ++ bytes) new why
Over-kept_out old now new bytes rest why out line goes seen r fits =
    let far = goes seen r fits in
    subst (λ (t : List ℕ). IsOverAt t new why) (sym far.2)
    (kept_out_over far.0 rest now new why out line far.1 (subst (λ (t : List ℕ). length t ≤ max_script) far.2 fits))

-- ---- a piece that ends a script

ends_early : (read : List ℕ) (s : Script) (why : Stop) → ((rest : List ℕ) → ScriptEnds (read ++ rest) s why) → IsOverAt read s why → EndsEarly read s why
ends_early read s (stop.Unread why) ends over = (ends, over)
ends_early read s (stop.Refused why) ends over = (ends, over)
ends_early read s stop.Memory ends over = tt {0}

pub EndsEarly-piece : (seen piece : List ℕ) (old new : Script) (why : Stop) → length piece ≤ old.room →
    ((seen after : List ℕ) → HasRead seen old → length (seen ++ piece) ≤ max_script → ScriptEnds ((seen ++ piece) ++ after) new why) →
    ((seen : List ℕ) → HasRead seen old → length (seen ++ piece) ≤ max_script → IsOverAt (seen ++ piece) new why) → ScriptStands seen old → EndsEarly (seen ++ piece) new why
EndsEarly-piece seen piece old new why fits ends over s =
    let short = piece_fits seen piece old.room s.room fits in
    ends_early (seen ++ piece) new why (λ rest. ends seen rest s.read short) (over seen s.read short)

-- more bytes leave a line over
IsOver-more : (read rest : List ℕ) (n : ℕ) → IsOver read n → IsOver (read ++ rest) n
IsOver-more read rest n o = record {
  lines = o.lines;
  rest = o.rest ++ rest;
  parts = ap (λ t. t ++ rest) o.parts ∙ append_assoc o.lines o.rest rest;
  whole = o.whole;
  happenings = o.happenings;
  says = o.says;
  number = o.number;
  over = ⊎_elim
      (λ (fed : (line : List ℕ) × (later : List ℕ) × (o.rest ≡ line ++ 10 ∷ later)). inl (fed.0, fed.1 ++ rest, ap (λ t. t ++ rest) fed.2 ∙ append_assoc fed.0 (10 ∷ fed.1) rest))
      (λ (long : (max_line < length o.rest) ⊎ (max_script < length read)). inr (⊎_elim
      (λ (line : max_line < length o.rest). inl (rw (length-append o.rest rest) (omega arith)))
      (λ (script : max_script < length read). inr (rw (length-append read rest) (omega arith)))
      long))
      o.over;
}

over_more : (read rest : List ℕ) (s : Script) (why : Stop) → IsOverAt read s why → IsOverAt (read ++ rest) s why
over_more read rest s (stop.Unread why) over = IsOver-more read rest s.line over
over_more read rest s (stop.Refused why) over = IsOver-more read rest s.line over
over_more read rest s stop.Memory over = tt {0}

pub EndsEarly-front : (seen piece front : List ℕ) (old new : Script) (why : Stop) → front ≡ take old.room piece → length front ≤ old.room →
    ((seen after : List ℕ) → HasRead seen old → length (seen ++ front) ≤ max_script → ScriptEnds ((seen ++ front) ++ after) new why) →
    ((seen : List ℕ) → HasRead seen old → length (seen ++ front) ≤ max_script → IsOverAt (seen ++ front) new why) → ScriptStands seen old → EndsEarly (seen ++ piece) new why
EndsEarly-front seen piece front old new why front_is fits ends over s =
    let short = piece_fits seen front old.room s.room fits in
    let parts : seen ++ piece ≡ (seen ++ front) ++ drop old.room piece =
    ap (λ t. seen ++ t) (sym (take-append-drop old.room piece) ∙ ap (λ t. t ++ drop old.room piece) (sym front_is)) ∙ sym (append_assoc seen front (drop old.room piece)) in
    ends_early (seen ++ piece) new why (λ rest. Ends-front seen piece front rest old new why front_is fits ends s)
    (subst (λ (t : List ℕ). IsOverAt t new why) (sym parts) (over_more (seen ++ front) (drop old.room piece) new why (over seen s.read short)))

pub EndsEarly-over : (seen piece front : List ℕ) (old new : Script) → front ≡ take old.room piece → length front ≡ old.room → old.room < length piece →
    ((seen : List ℕ) → HasRead seen old → length (seen ++ front) ≤ max_script → HasRead (seen ++ front) new) → ScriptStands seen old → EndsEarly (seen ++ piece) new (stop.Unread TooLong)
EndsEarly-over seen piece front old new front_is full more one s =
    let left = s.room in
    let size : length (seen ++ front) ≡ max_script = rw (length-append seen front) (omega arith) in
    let parts : length piece ≡ length front + length (drop old.room piece) =
    ap length (sym (take-append-drop old.room piece) ∙ ap (λ t. t ++ drop old.room piece) (sym front_is)) ∙ length-append front (drop old.room piece) in
    let place : seen ++ piece ≡ (seen ++ front) ++ drop old.room piece =
    ap (λ t. seen ++ t) (sym (take-append-drop old.room piece) ∙ ap (λ t. t ++ drop old.room piece) (sym front_is)) ∙ sym (append_assoc seen front (drop old.room piece)) in (
      λ rest. Ends-over seen piece front rest old new front_is full more one s,
      subst (λ (t : List ℕ). IsOver t new.line) (sym place) (IsOver-script (seen ++ front) (drop old.room piece) new (one seen s.read (omega arith)) size (omega arith)),
    )
