-- A connection or a reaper ends: what it had out and was not carried out is left, bound as it was.
use Rattle.std.proofs.Common.{◌≡◌, ◌≢◌, ℕ, ◌≤◌, ◌<◌, List, [], ◌∷◌, ◌++◌, length, refl, sym, ap, ◌∙◌, subst, arith, Bool, true, false, cond, ℤ, inl, inr, append_assoc, append-nil}
use Rattle.std.specs.Prelude.{Option, Some, None, ◌⊎◌, ◌&&◌, ◌==◌, slice_get, if◌then◌else◌}
use Rattle.std.proofs.lemmas.Bool.Decides.{nat_tests}
use Rattle.std.proofs.lemmas.Option.{slice_get_within}
use Rattle.zk_transcript.proofs.Appending.{after-push}
use Rattle.zk_model.specs.Limits.{max_frame}
use Rattle.zk_service.specs.States.{State}
use Rattle.zk_transcript.specs.History.{after, frame, frame_shown, first_shown}
use Rattle.zk_service.specs.declared.cause.Ended.{Ended}
use Rattle.zk_transcript.specs.declared.transcript.TranscriptLine.{TranscriptLine}
use Rattle.zk_transcript.specs.declared.transcript.TranscriptLine.TheVariants.{Frame as FrameLine, Close}
use Rattle.zp_step.specs.Stages.{Core, is_shut, is_served}
use Rattle.zp_script.specs.StepOutcomes.{ends, leaves, left_by, quiet}
use Rattle.zp_script.specs.Worlds.{Closed, Conn, Connection, World, conn_at, with_conn}
use Rattle.zp_script.specs.declared.flight.Asking.{Asking}
use Rattle.zp_script.specs.declared.flight.Flight.{Flight}
use Rattle.zp_script.specs.declared.flight.Flight.TheVariants.{Out, Carried, Denied}
use Rattle.zx_base.proofs.Options.{none_some, some_is}
use Rattle.zp_world_laws.proofs.Effects.{out-with}
use Rattle.zp_world_laws.proofs.Executing.{precedes-self}
use Rattle.zp_world_laws.proofs.Growing.{slice_get-one}
use Rattle.zp_world_laws.proofs.Kept.{closed-same, frame-append}
use Rattle.zp_world_laws.proofs.Lines.{is_plain, quiet-holds, same-air}
use Rattle.zp_world_laws.proofs.Numbers.{conn-here, conn-there, either-number, left-some, of-same}
use Rattle.zp_world_laws.proofs.Serving.{elsewhere-plain, serving-push}
use Rattle.zp_world_laws.proofs.Talking.{is_quiet}
use Rattle.zp_world_laws.specs.Connections.{HasSmallFrames, IsClosedAt, IsServingConn, Whole}
use Rattle.zp_world_laws.specs.Holding.{Holds, Left, Of, Source, air, asker_in, left_in, out_in, out_of}
use Rattle.zx_base.proofs.Booleans.{same-number}

-- ---- whole but for one connection

pub record But (w : World) (c : ℕ) : Type 0 where
  pub holds : Holds w
  pub serving : (d : ℕ) (x : Conn) (core : Core) → d ≢ c → conn_at d w ≡ Some x → x.actor ≡ Connection core → is_served core.stage ≡ true → IsServingConn w.store w.lines d core x.flight
  pub unshut : (d : ℕ) (x : Conn) (core : Core) → conn_at d w ≡ Some x → x.actor ≡ Connection core → is_shut core.stage ≡ false
  pub own : (e d : ℕ) (x : Conn) (a : Asking) → conn_at e w ≡ Some x → x.flight ≡ Some (Out a) → asker_in a ≡ Some d → d ≡ e
  pub left : (k d : ℕ) (a : Asking) → air w (Left k) ≡ Some a → asker_in a ≡ Some d → IsClosedAt w d
  pub small : (d : ℕ) → HasSmallFrames w.lines d

pub but-of : (w : World) (c : ℕ) → Whole w → But w c
but-of w c h = record { holds = h.holds; serving = λ d x core apart e a s. h.serving d x core e a s; unshut = h.unshut; own = h.own; left = h.left; small = h.small }

-- ---- frames are shown

-- a frame of this connection, within the limit, that shows this zxid
pub record IsShownFrame (c : ℕ) (z : ℤ) (l : TranscriptLine) : Type 0 where
  pub index : ℕ
  pub bytes : List ℕ
  pub is : l ≡ FrameLine c index z bytes
  pub small : length bytes ≤ max_frame

pub shown-plain : (c : ℕ) (z : ℤ) (l : TranscriptLine) → IsShownFrame c z l → is_plain l ≡ true
shown-plain c z l f = ap is_plain f.is

pub shown-quiet : (c : ℕ) (z : ℤ) (l : TranscriptLine) → IsShownFrame c z l → is_quiet l ≡ true
shown-quiet c z l f = ap is_quiet f.is

frame-parts : (c i d j : ℕ) (y z : ℤ) (a b : List ℕ) → FrameLine c i y a ≡ FrameLine d j z b → (y ≡ z) × (a ≡ b)
frame-parts c i d j y z a b e = (cc, cc)

pub shown-last : (lines : List TranscriptLine) (c : ℕ) (z : ℤ) (l : TranscriptLine) → z ≡ (after lines).zxid → IsShownFrame c z l → (d j : ℕ) (y : ℤ) (b : List ℕ) → l ≡ FrameLine d j y b → y ≡ (after lines).zxid
shown-last lines c z l last f d j y b e = sym ((frame-parts c f.index d j z y f.bytes b (sym f.is ∙ e)).0) ∙ last

small-one : (c : ℕ) (z : ℤ) (l : TranscriptLine) → IsShownFrame c z l → (d i : ℕ) (bytes : List ℕ) → frame d i (l ∷ []) ≡ Some bytes → length bytes ≤ max_frame
small-one c z l f d i bytes e = go (frame_shown d i l) refl e
  where
    shown : (o : Option (List ℕ)) → frame_shown d i l ≡ o → o ≡ Some bytes → f.bytes ≡ bytes
    shown o h g = by ((d == c) && (i == f.index)) refl (sym (ap (frame_shown d i) f.is) ∙ h ∙ g)
      where
        by : (b : Bool) → ((d == c) && (i == f.index)) ≡ b → frame_shown d i (FrameLine c f.index z f.bytes) ≡ Some bytes → f.bytes ≡ bytes
        by true x y = some_is (sym (ap (λ q. if q then Some f.bytes else None) x) ∙ y)
        by false x y = absurd (none_some (sym (ap (λ q. if q then Some f.bytes else None) x) ∙ y))

    go : (o : Option (List ℕ)) → frame_shown d i l ≡ o → first_shown (frame_shown d i) (l ∷ []) ≡ Some bytes → length bytes ≤ max_frame
    go None h g = absurd (none_some (sym (ap (λ p. elim p [ Some y ↦ Some y | None ↦ None ]) h) ∙ g))
    go (Some y) h g = let same : y ≡ bytes = some_is (sym (ap (λ p. elim p [ Some x ↦ Some x | None ↦ None ]) h) ∙ g) in subst (λ b. length b ≤ max_frame) (shown (Some y) h (ap (λ b. Some b) same)) f.small

frame-either : (d i : ℕ) (lines more : List TranscriptLine) (bytes : List ℕ) → frame d i (lines ++ more) ≡ Some bytes → (frame d i lines ≡ Some bytes) ⊎ (frame d i more ≡ Some bytes)
frame-either d i [] more bytes h = inr h
frame-either d i (l ∷ ls) more bytes h = go (frame_shown d i l) (frame-either d i ls more bytes) h
  where
    go : (o : Option (List ℕ)) → (frame d i (ls ++ more) ≡ Some bytes → (frame d i ls ≡ Some bytes) ⊎ (frame d i more ≡ Some bytes))
        → ◌≡◌ {A = Option (List ℕ)} (elim o [ Some y ↦ Some y | None ↦ frame d i (ls ++ more) ]) (Some bytes) → ◌⊎◌ (◌≡◌ {A = Option (List ℕ)} (elim o [ Some y ↦ Some y | None ↦ frame d i ls ]) (Some bytes)) (frame d i more ≡ Some bytes)
    go None later e = later e
    go (Some y) later e = inl e

pub small-shown : (lines : List TranscriptLine) (c : ℕ) (z : ℤ) (l : TranscriptLine) → IsShownFrame c z l → ((d : ℕ) → HasSmallFrames lines d) → (d : ℕ) → HasSmallFrames (lines ++ l ∷ []) d
small-shown lines c z l f h d i bytes e = elim (frame-either d i lines (l ∷ []) bytes e) [ inl old ↦ h d i bytes old | inr new ↦ small-one c z l f d i bytes new ]

abbrev pub with_line : World → TranscriptLine → World
with_line w l = record w { lines = w.lines ++ l ∷ [] }

pub line-only : (w : World) (l : TranscriptLine) (o : Source) (x : Asking) → air (with_line w l) o ≡ Some x → air w o ≡ Some x
line-only w l (Of c) x e = e
line-only w l (Left k) x e = e

pub shown-holds : (w : World) (c : ℕ) (z : ℤ) (l : TranscriptLine) → z ≡ (after w.lines).zxid → IsShownFrame c z l → Holds w → Holds (with_line w l)
shown-holds w c z l last f h = quiet-holds w (with_line w l) l (shown-plain c z l f) (shown-quiet c z l f) refl refl (shown-last w.lines c z l last f) (same-air w (with_line w l) (line-only w l)) h

pub shown-but : (w : World) (c d : ℕ) (z : ℤ) (l : TranscriptLine) → z ≡ (after w.lines).zxid → IsShownFrame c z l → But w d → But (with_line w l) d
shown-but w c d z l last f h =
    let holds = shown-holds w c z l last f h.holds in
    record {
      holds = holds;
      serving = λ e x core apart there a s. serving-push w.store w.store w.lines (l ∷ []) e core x.flight ((h.holds).serves).legal (holds.serves).legal (precedes-self w.store) (elsewhere-plain w.lines e l (shown-plain c z l f)) (h.serving e x core apart there a s);
      unshut = h.unshut;
      own = h.own;
      left = λ k e a r t. closed-same w (with_line w l) e refl (h.left k e a (line-only w l (Left k) a r) t);
      small = small-shown w.lines c z l f h.small;
    }

abbrev pub AreShown : ℕ → ℤ → List TranscriptLine → Type 0
AreShown c z [] = Unit {0}
AreShown c z (l ∷ ls) = IsShownFrame c z l × AreShown c z ls

abbrev pub with_lines : World → List TranscriptLine → World
with_lines w ls = record w { lines = w.lines ++ ls }

quiet-zxid : (lines : List TranscriptLine) (c : ℕ) (z : ℤ) (l : TranscriptLine) → IsShownFrame c z l → (after (lines ++ l ∷ [])).zxid ≡ (after lines).zxid
quiet-zxid lines c z l f = ap (λ (m : TranscriptLine). (after (lines ++ m ∷ [])).zxid) f.is ∙ ap (λ (s : State). s.zxid) (after-push lines (FrameLine c f.index z f.bytes))

all-shown-but : (w : World) (c d : ℕ) (z : ℤ) (ls : List TranscriptLine) → z ≡ (after w.lines).zxid → AreShown c z ls → But w d → But (with_lines w ls) d
all-shown-but w c d z [] last f h = subst (λ l. But (record w { lines = l }) d) (sym (append-nil w.lines)) h
all-shown-but w c d z (l ∷ ls) last f h =
    subst (λ m. But (record w { lines = m }) d) (append_assoc w.lines (l ∷ []) ls)
    (all-shown-but (with_line w l) c d z ls (last ∙ sym (quiet-zxid w.lines c z l f.0)) f.1 (shown-but w c d z l last f.0 h))

-- ---- the end

abbrev pub closed_conn : Conn → Conn
closed_conn x = record x { actor = Closed; flight = None }

abbrev pub closed_world : World → ℕ → Conn → Ended → World
closed_world w c x end = record (with_conn w c (closed_conn x)) { lines = w.lines ++ Close c end ∷ []; strays = w.strays ++ left_by x.flight }

-- where it was before
abbrev from_where : World → ℕ → Source → Source
from_where w c (Of d) = Of d
from_where w c (Left k) = cond (k == length w.strays) (Of c) (Left k)

-- a new stray is what was out of c; the others were strays
abbrev WasLeft : World → ℕ → ℕ → Asking → Type 0
WasLeft w c k z = ((k ≡ length w.strays) × (air w (Of c) ≡ Some z)) ⊎ ((k < length w.strays) × (air w (Left k) ≡ Some z))

old-left : (w : World) (c k : ℕ) (z : Asking) → air w (Left k) ≡ Some z → WasLeft w c k z
old-left w c k z e = inr (slice_get_within w.strays k (Some z) (left-some (slice_get w.strays k) z e), e)

was-left : (w : World) (c k : ℕ) (f : Option Flight) (z : Asking) → air w (Of c) ≡ out_in f → left_in (slice_get (w.strays ++ left_by f) k) ≡ Some z → WasLeft w c k z
was-left w c k None z o e = old-left w c k z (ap (λ l. left_in (slice_get l k)) (sym (append-nil w.strays)) ∙ e)
was-left w c k (Some (Carried b)) z o e = old-left w c k z (ap (λ l. left_in (slice_get l k)) (sym (append-nil w.strays)) ∙ e)
was-left w c k (Some Denied) z o e = old-left w c k z (ap (λ l. left_in (slice_get l k)) (sym (append-nil w.strays)) ∙ e)
was-left w c k (Some (Out a)) z o e =
    elim (slice_get-one w.strays (Some a) (Some z) k (left-some _ z e)) [
      | inl old ↦ old-left w c k z (ap left_in old)
      | inr new ↦ inl (new.0, o ∙ new.1)
    ]

unequal : (a b : ℕ) → a < b → (a == b) ≡ false
unequal a b e = grind (arith, nat_tests)

of-left : (d k : ℕ) → Of d ≡ Left k → ⊥
of-left d k e = cc

module _ (w : World) (c : ℕ) (x : Conn) (end : Ended) (there : conn_at c w ≡ Some x) where
  left-of : (k : ℕ) (z : Asking) → air (closed_world w c x end) (Left k) ≡ Some z → WasLeft w c k z
  left-of k z e = was-left w c k x.flight z (ap out_of there) e

  not-here : (d : ℕ) (z : Asking) → air (closed_world w c x end) (Of d) ≡ Some z → d ≡ c → ⊥
  not-here d z e f = (out-with w c d (closed_conn x) z refl e).0 f

  was : (o : Source) (z : Asking) → air (closed_world w c x end) o ≡ Some z → air w (from_where w c o) ≡ Some z
  was (Of d) z e = (out-with w c d (closed_conn x) z refl e).1
  was (Left k) z e = elim (left-of k z e) [
    | inl new ↦ ap (λ b. air w (cond b (Of c) (Left k))) (same-number k (length w.strays) new.0) ∙ new.1
    | inr old ↦ ap (λ b. air w (cond b (Of c) (Left k))) (unequal k (length w.strays) old.0) ∙ old.1
  ]

  crossed : (d k : ℕ) (p q : Asking) → air (closed_world w c x end) (Of d) ≡ Some p → air (closed_world w c x end) (Left k) ≡ Some q → Of d ≡ from_where w c (Left k) → ⊥
  crossed d k p q ea eb f = elim (left-of k q eb) [
    | inl new ↦ not-here d p ea (of-same d c (f ∙ ap (λ b. cond b (Of c) (Left k)) (same-number k (length w.strays) new.0)))
    | inr old ↦ of-left d k (f ∙ ap (λ b. cond b (Of c) (Left k)) (unequal k (length w.strays) old.0))
  ]

  distinct : (a b : Source) (p q : Asking) → air (closed_world w c x end) a ≡ Some p → air (closed_world w c x end) b ≡ Some q → from_where w c a ≡ from_where w c b → a ≡ b
  distinct (Of d) (Of e) p q ea eb f = f
  distinct (Of d) (Left k) p q ea eb f = absurd (crossed d k p q ea eb f)
  distinct (Left k) (Of d) p q ea eb f = absurd (crossed d k q p eb ea (sym f))
  distinct (Left k) (Left j) p q ea eb f = elim (left-of k p ea) [
    | inl new ↦ elim (left-of j q eb) [
      | inl also ↦ ap Left (new.0 ∙ sym also.0)
      | inr old ↦ absurd (of-left c j (sym (ap (λ b. cond b (Of c) (Left k)) (same-number k (length w.strays) new.0)) ∙ f ∙ ap (λ b. cond b (Of c) (Left j)) (unequal j (length w.strays) old.0)))
    ]
    | inr old ↦ elim (left-of j q eb) [
      | inl new ↦ absurd (of-left c k (sym (ap (λ b. cond b (Of c) (Left j)) (same-number j (length w.strays) new.0)) ∙ sym f ∙ ap (λ b. cond b (Of c) (Left k)) (unequal k (length w.strays) old.0)))
      | inr also ↦ sym (ap (λ b. cond b (Of c) (Left k)) (unequal k (length w.strays) old.0)) ∙ f ∙ ap (λ b. cond b (Of c) (Left j)) (unequal j (length w.strays) also.0)
    ]
  ]

  close-holds : Holds w → Holds (closed_world w c x end)
  close-holds h = quiet-holds w (closed_world w c x end) (Close c end) refl refl refl refl (λ d i z bytes e. absurd (cc)) (record { before = from_where w c; was = was; apart = distinct }) h

  closed-now : IsClosedAt (closed_world w c x end) c
  closed-now = (closed_conn x, conn-here w c (closed_conn x), refl)

  still-closed : (d : ℕ) → IsClosedAt w d → IsClosedAt (closed_world w c x end) d
  still-closed d t = elim (either-number d c) [
    | inl same ↦ subst (λ n. IsClosedAt (closed_world w c x end) n) (sym same) closed-now
    | inr apart ↦ closed-same w (closed_world w c x end) d (conn-there w c d (closed_conn x) apart) t
  ]

  closed-serves : (h : But w c) (d : ℕ) (v : Conn) (core : Core) → d ≢ c → conn_at d (closed_world w c x end) ≡ Some v → v.actor ≡ Connection core → is_served core.stage ≡ true → IsServingConn w.store (w.lines ++ Close c end ∷ []) d core v.flight
  closed-serves h d v core apart e a s =
      serving-push w.store w.store w.lines (Close c end ∷ []) d core v.flight ((h.holds).serves).legal ((close-holds h.holds).serves).legal (precedes-self w.store)
      (elsewhere-plain w.lines d (Close c end) refl) (h.serving d v core apart (sym (conn-there w c d (closed_conn x) apart) ∙ e) a s)

  here-is : (d : ℕ) (v : Conn) → d ≡ c → conn_at d (closed_world w c x end) ≡ Some v → closed_conn x ≡ v
  here-is d v same e = some_is (sym (conn-here w c (closed_conn x)) ∙ ap (λ n. conn_at n (closed_world w c x end)) (sym same) ∙ e)

  pub close-whole : But w c → Whole (closed_world w c x end)
  close-whole h = record {
    holds = close-holds h.holds;
    serving = λ d v core e a s. elim (either-number d c) [
      | inl same ↦ absurd (shut-serves (ap (λ (y : Conn). y.actor) (here-is d v same e) ∙ a))
      | inr apart ↦ closed-serves h d v core apart e a s
    ];
    unshut = λ d v core e a. elim (either-number d c) [
      | inl same ↦ absurd (shut-serves (ap (λ (y : Conn). y.actor) (here-is d v same e) ∙ a))
      | inr apart ↦ h.unshut d v core (sym (conn-there w c d (closed_conn x) apart) ∙ e) a
    ];
    own = λ e d y a p q r. elim (either-number e c) [
      | inl same ↦ absurd (none_some (ap (λ (z : Conn). z.flight) (here-is e y same p) ∙ q))
      | inr apart ↦ h.own e d y a (sym (conn-there w c e (closed_conn x) apart) ∙ p) q r
    ];
    left = λ k d a z g. elim (left-of k a z) [
      | inl new ↦ subst (λ n. IsClosedAt (closed_world w c x end) n) (sym (own-left h d a new.1 g)) closed-now
      | inr old ↦ still-closed d (h.left k d a old.1 g)
    ];
    small = λ d i bytes f. h.small d i bytes (sym (frame-append d i w.lines (Close c end ∷ []) refl) ∙ f);
  }
    where
      shut-serves : {core : Core} → Closed ≡ Connection core → ⊥
      shut-serves e = cc

      own-left : (h : But w c) (d : ℕ) (a : Asking) → air w (Of c) ≡ Some a → asker_in a ≡ Some d → d ≡ c
      own-left h d a o g = flown x.flight refl (sym (ap out_of there) ∙ o)
        where
          flown : (f : Option Flight) → x.flight ≡ f → out_in f ≡ Some a → d ≡ c
          flown None e p = absurd (none_some p)
          flown (Some (Out b)) e p = h.own c d x a there (e ∙ ap (λ q. Some (Out q)) (some_is p)) g
          flown (Some (Carried b)) e p = absurd (none_some p)
          flown (Some Denied) e p = absurd (none_some p)

-- with frames that came at once shown before it
pub ends-whole : (w : World) (c : ℕ) (x : Conn) (z : ℤ) (rest : List TranscriptLine) (end : Ended) → conn_at c w ≡ Some x → z ≡ (after w.lines).zxid → AreShown c z rest → But w c → Whole (leaves c w x Closed (ends c rest end (quiet x.flight)))
ends-whole w c x z rest end there last shown h =
    subst (λ l. Whole (record (with_conn w c (closed_conn x)) { lines = l; strays = w.strays ++ left_by x.flight })) (append_assoc w.lines rest (Close c end ∷ []))
    (close-whole (with_lines w rest) c x end there (all-shown-but w c c z rest last shown h))
