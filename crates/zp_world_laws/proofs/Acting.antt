-- A connection or a reaper acts by itself: all others are as they were, and the lines that are added name none of them.
use Rattle.ev_types.specs.Store.{Store}
use Rattle.std.proofs.Common.{Bool, List, [], ap, append-nil, append_assoc, arith, false, inl, inr, refl, subst, sym, true, ℕ, ℤ, ◌++◌, ◌∙◌, ◌∷◌, ◌≡◌, ◌≢◌, ◌≤◌}
use Rattle.std.proofs.lemmas.Bool.{and_parts}
use Rattle.std.proofs.lemmas.List.Folds.{list_all-append}
use Rattle.std.specs.List.{list_all}
use Rattle.std.specs.Prelude.{Option, Some, fold, not, ◌&&◌, ◌==◌}
use Rattle.zk_transcript.proofs.Appending.{after-push}
use Rattle.zk_transcript.specs.Conversations.{IsInConnection}
use Rattle.zk_service.specs.States.{State}
use Rattle.zk_transcript.specs.History.{after}
use Rattle.zk_service.specs.declared.cause.Ended.TheVariants as ended
use Rattle.zk_service.specs.declared.cause.Ended.{Ended}
use Rattle.zk_transcript.specs.declared.transcript.TranscriptLine.TheVariants.{Close, Frame as FrameLine, Lapse as LapseLine, Open, Send, Update}
use Rattle.zk_transcript.specs.declared.transcript.TranscriptLine.{TranscriptLine}
use Rattle.zk_service.specs.declared.update.UpdateKind.{UpdateKind}
use Rattle.zn_layout.specs.declared.entry.Entry.{Entry}
use Rattle.zp_script.specs.StepOutcomes.{StepOutcome, acts, ends, leaves}
use Rattle.zp_script.specs.Worlds.{Actor, Conn, World, conn_at}
use Rattle.zp_step.specs.declared.action.Action.TheVariants as action
use Rattle.zp_step.specs.declared.action.Action.{Action}
use Rattle.zp_world_laws.proofs.Closing.{AreShown}
use Rattle.zp_world_laws.proofs.Entering.{entries-line}
use Rattle.zp_world_laws.proofs.Growing.{quiet-change, same-precedes}
use Rattle.zp_world_laws.proofs.Knowing.{known-alone}
use Rattle.zp_world_laws.proofs.Numbers.{conn-here, conn-there, either-number, number-same, other-number}
use Rattle.zp_world_laws.proofs.Talking.{is_quiet}
use Rattle.zp_world_laws.proofs.Within.{within-unnamed}
use Rattle.zp_world_laws.specs.Connections.{Whole}
use Rattle.zp_world_laws.specs.Entering.{AreEntries}
use Rattle.zp_world_laws.specs.Knowing.{IsKnownAs, Known}
use Rattle.zp_world_laws.specs.Naming.{is_unnamed, names_conn}
use Rattle.zx_base.proofs.Options.{none_some, some_is}
use Rattle.zx_base.proofs.Booleans.{and-both as both-true, same-test as same-nat}

-- a line that one connection, or one reaper, adds by itself
abbrev pub is_own : ℕ → TranscriptLine → Bool
is_own c (FrameLine d i z bytes) = c == d
is_own c (Send d bytes) = c == d
is_own c (Close d end) = c == d
is_own c _ = false

pub record Acts (w w' : World) (c : ℕ) : Type 0 where
  pub whole : Whole w'
  pub store : w'.store ≡ w.store
  pub entries : w'.entries ≡ w.entries
  pub more : List TranscriptLine
  pub lines : w'.lines ≡ w.lines ++ more
  pub own : list_all (is_own c) more ≡ true
  pub others : (d : ℕ) → d ≢ c → conn_at d w' ≡ conn_at d w
  pub now : Conn
  pub there : conn_at c w' ≡ Some now
  -- it has no fewer frames
  pub frames : (x : Conn) → conn_at c w ≡ Some x → x.frames ≤ now.frames
  pub known : IsKnownAs w'.store w'.lines c now now.actor
  -- its packets stand within it still
  pub within : IsInConnection w.lines c → IsInConnection w'.lines c

-- ---- lines of c alone

apart-same : (d c e : ℕ) → d ≢ c → (c == e) ≡ true → not (d == e) ≡ true
apart-same d c e apart h = ap not (other-number d e (λ same. apart (same ∙ sym (number-same c e h))))

own-names : (d c : ℕ) (l : TranscriptLine) → d ≢ c → is_own c l ≡ true → not (names_conn d l) ≡ true
own-names d c (FrameLine e i z bytes) apart h = apart-same d c e apart h
own-names d c (Send e bytes) apart h = apart-same d c e apart h
own-names d c (Close e end) apart h = apart-same d c e apart h
own-names d c (Update u) apart h = absurd (cc)
own-names d c (Open e p id passwd layout) apart h = absurd (cc)
own-names d c (LapseLine r id) apart h = absurd (cc)

pub own-unnamed : (d c : ℕ) (ls : List TranscriptLine) → d ≢ c → list_all (is_own c) ls ≡ true → is_unnamed d ls ≡ true
own-unnamed d c [] apart h = refl
own-unnamed d c (l ∷ ls) apart h = let q = and_parts (is_own c l) (list_all (is_own c) ls) h in both-true (not (names_conn d l)) (is_unnamed d ls) (own-names d c l apart q.0) (own-unnamed d c ls apart q.1)

own-quiet : (c : ℕ) (l : TranscriptLine) → is_own c l ≡ true → is_quiet l ≡ true
own-quiet c (FrameLine e i z bytes) h = refl
own-quiet c (Send e bytes) h = refl
own-quiet c (Close e end) h = refl
own-quiet c _ h = absurd (cc)

pub all-own-quiet : (c : ℕ) (ls : List TranscriptLine) → list_all (is_own c) ls ≡ true → list_all is_quiet ls ≡ true
all-own-quiet c [] h = refl
all-own-quiet c (l ∷ ls) h = let q = and_parts (is_own c l) (list_all (is_own c) ls) h in both-true (is_quiet l) (list_all is_quiet ls) (own-quiet c l q.0) (all-own-quiet c ls q.1)

pub own-append : (c : ℕ) (xs ys : List TranscriptLine) → list_all (is_own c) xs ≡ true → list_all (is_own c) ys ≡ true → list_all (is_own c) (xs ++ ys) ≡ true
own-append c xs ys a b = list_all-append (is_own c) xs ys ∙ both-true (list_all (is_own c) xs) (list_all (is_own c) ys) a b

pub one-own : (c : ℕ) → ((c == c) && true) ≡ true
one-own c = both-true (c == c) true (same-nat c) refl

pub shown-own : (c : ℕ) (z : ℤ) (ls : List TranscriptLine) → AreShown c z ls → list_all (is_own c) ls ≡ true
shown-own c z [] h = refl
shown-own c z (l ∷ ls) (f, more) = both-true (is_own c l) (list_all (is_own c) ls) (ap (is_own c) f.is ∙ same-nat c) (shown-own c z ls more)

pub ends-own : (c : ℕ) (rest : List TranscriptLine) (end : Ended) (o : StepOutcome) → list_all (is_own c) rest ≡ true → list_all (is_own c) o.lines ≡ true → list_all (is_own c) (ends c rest end o).lines ≡ true
ends-own c rest end o b h = own-append c (o.lines ++ rest) (Close c end ∷ []) (own-append c o.lines rest h b) (one-own c)

act-own : (c : ℕ) (kind : Option UpdateKind) (rest : List TranscriptLine) (o : StepOutcome) (a : Action) → list_all (is_own c) rest ≡ true → list_all (is_own c) o.lines ≡ true → list_all (is_own c) (acts c kind rest o a).lines ≡ true
act-own c kind rest o (action.Send bytes) b h = own-append c o.lines (Send c bytes ∷ []) h (one-own c)
act-own c kind rest o (action.Ask a) b h = h
act-own c kind rest o (action.Close why) b h = ends-own c rest (ended.Cause why) o b h

pub acts-own : (c : ℕ) (kind : Option UpdateKind) (rest : List TranscriptLine) (out : List Action) (o : StepOutcome) → list_all (is_own c) rest ≡ true → list_all (is_own c) o.lines ≡ true → list_all (is_own c) (fold (acts c kind rest) o out).lines ≡ true
acts-own c kind rest [] o b h = h
acts-own c kind rest (a ∷ out) o b h = acts-own c kind rest out (acts c kind rest o a) b (act-own c kind rest o a b h)

-- ---- all that is known

pub acts-known : (w w' : World) (c : ℕ) → Whole w → Known w → Acts w w' c → Known w'
acts-known w w' c h k a =
    known-alone w w' c a.more k (record {
      longer = same-precedes w.store w'.store (ap (λ (s : Store). s.revisions) a.store);
      legal = ((h.holds).serves).legal;
      still_legal = (((a.whole).holds).serves).legal;
      lines = a.lines;
      others = a.others;
      unnamed = λ d apart. inr (own-unnamed d c a.more apart a.own);
    })
    (λ x e. subst (λ (y : Conn). IsKnownAs w'.store w'.lines c y y.actor) (some_is (sym a.there ∙ e)) a.known)
    (λ e. absurd (none_some (sym e ∙ a.there)))

quiet-entries : (lines more : List TranscriptLine) (entries : List Entry) → list_all is_quiet more ≡ true → AreEntries lines entries → AreEntries (lines ++ more) entries
quiet-entries lines [] entries h k = subst (λ l. AreEntries l entries) (sym (append-nil lines)) k
quiet-entries lines (l ∷ ls) entries h k =
    let q = and_parts (is_quiet l) (list_all is_quiet ls) h in
    subst (λ m. AreEntries m entries) (append_assoc lines (l ∷ []) ls)
    (quiet-entries (lines ++ l ∷ []) ls entries q.1 (entries-line lines l entries (ap (λ (s : State). s.updates) (after-push lines l ∙ quiet-change lines l (after lines) q.0)) k))

pub acts-entries : (w w' : World) (c : ℕ) → AreEntries w.lines w.entries → Acts w w' c → AreEntries w'.lines w'.entries
acts-entries w w' c k a = subst (λ es. AreEntries w'.lines es) (sym a.entries) (subst (λ l. AreEntries l w.entries) (sym a.lines) (quiet-entries w.lines a.more w.entries (all-own-quiet c a.more a.own) k))

pub acts-within : (w w' : World) (c : ℕ) → ((d : ℕ) → IsInConnection w.lines d) → Acts w w' c → (d : ℕ) → IsInConnection w'.lines d
acts-within w w' c k a d = elim (either-number d c) [
  | inl same ↦ subst (IsInConnection w'.lines) (sym same) (a.within (k c))
  | inr apart ↦ subst (λ l. IsInConnection l d) (sym a.lines) (within-unnamed w.lines a.more d (own-unnamed d c a.more apart a.own) (k d))
]

-- ---- what is left of it

-- the world after a step: c is this actor, with this flight
pub leaves-acts : (w w' : World) (c : ℕ) (x : Conn) (actor : Actor) (o : StepOutcome) → conn_at c w ≡ Some x → w' ≡ leaves c w x actor o → list_all (is_own c) o.lines ≡ true → Whole w' → IsKnownAs w.store (w.lines ++ o.lines) c (record x { actor = actor; flight = o.flight }) actor → (IsInConnection w.lines c → IsInConnection (w.lines ++ o.lines) c) → Acts w w' c
leaves-acts w w' c x actor o was is own whole known within = record {
  whole = whole;
  store = ap (λ (v : World). v.store) is;
  entries = ap (λ (v : World). v.entries) is;
  more = o.lines;
  lines = ap (λ (v : World). v.lines) is;
  own = own;
  others = λ d apart. ap (conn_at d) is ∙ conn-there w c d (record x { actor = actor; flight = o.flight }) apart;
  now = record x { actor = actor; flight = o.flight };
  there = ap (conn_at c) is ∙ conn-here w c (record x { actor = actor; flight = o.flight });
  frames = λ y e. (let same : x ≡ y = some_is (sym was ∙ e) in omega (arith, ap (λ (v : Conn). v.frames) same));
  known = subst (λ (v : World). IsKnownAs v.store v.lines c (record x { actor = actor; flight = o.flight }) actor) (sym is) known;
  within = λ k. subst (λ (v : World). IsInConnection v.lines c) (sym is) (within k);
}
