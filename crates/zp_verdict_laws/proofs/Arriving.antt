-- Bytes of a client arrive: each whole frame has its line, and is handed in.
use Rattle.std.proofs.Common.{◌≡◌, ◌≤◌, ℕ, ℤ, ◌+◌, List, [], ◌∷◌, length, refl, sym, ap, ◌∙◌, subst, arith, Bool, true, false}
use Rattle.std.proofs.lemmas.Bool.Decides.{nat_tests}
use Rattle.std.proofs.lemmas.List.Elements.{All-cons, All-head, All-tail}
use Rattle.std.specs.List.{list_all}
use Rattle.std.specs.Prelude.{All, MatchBool, Option, Some, None, if◌then◌else◌, nat_le, ◌==◌}
use Rattle.ev_types.specs.Store.{Store, mod_of, present}
use Rattle.ev_types.specs.declared.answer.Kv.{Kv}
use Rattle.zk_legal.specs.Formed.{frames_of}
use Rattle.zk_model.specs.Limits.{max_frame}
use Rattle.zk_transcript.specs.declared.transcript.TranscriptLine.TheVariants.{Frame as FrameLine}
use Rattle.zn_layout.specs.Keys.{HeadKey, key_bytes}
use Rattle.zn_layout.specs.StandsFor.{at}
use Rattle.zp_script.specs.Arriving.{Arrives, EndsBadly, FramesArrive, frame_lines, shown_frame}
use Rattle.zp_script.specs.Handing.{Handed}
use Rattle.zp_script.specs.Worlds.{Conn, Connection, World, conn_at, is_open_conn, with_conn, zxid_at}
use Rattle.zp_verdict_laws.proofs.Handing.{AreIndexed, handed-proceeds, none-indexed}
use Rattle.zp_verdict_laws.proofs.Naturals.{AreNaturalLines, IsNaturalLine, no-lines, one-line}
use Rattle.zp_verdict_laws.proofs.Progress.{Broken, Opened, frames_of-append, progress-append, progress_from, takes, unnamed-aside}
use Rattle.zp_verdict_laws.proofs.Stored.{IsNatural, natural, store-natural}
use Rattle.zp_verdict_laws.proofs.Tidy.{ChangesOne, Free, IsInStep, Proceeds, alike-proceeds, one-proceeds, proceeds-same, proceeds-then, in_step-count}
use Rattle.zp_verdict_laws.specs.Lawful.{AreCounted}
use Rattle.zp_step.proofs.Counting.{counted-small}
use Rattle.zp_step.specs.Stages.{Core, counted_up}
use Rattle.zp_step.specs.declared.input.Input.TheVariants as input
use Rattle.zp_world_laws.proofs.Acting.{is_own, one-own, own-unnamed}
use Rattle.zp_world_laws.proofs.Arrivals.{framed-small}
use Rattle.zp_world_laws.proofs.Numbers.{conn-here, conn-there}
use Rattle.zx_base.proofs.Options.{some_is}
use Rattle.zx_base.proofs.Booleans.{and-both as both-true, same-test as same-nat}

-- ---- lines of frames

small-test : (bytes : List ℕ) → length bytes ≤ max_frame → nat_le (length bytes) max_frame ≡ true
small-test bytes le = grind (arith, nat_tests)

-- a frame whose index is the next one
frame-next : (c n : ℕ) (z : ℤ) (bytes : List ℕ) → length bytes ≤ max_frame → progress_from c (Opened n) (FrameLine c n z bytes ∷ []) ≡ Opened (n + 1)
frame-next c n z bytes small =
    ap (λ b. if b then takes n bytes (Opened n) else Opened n) (same-nat c)
    ∙ ap (λ b. if b then Opened (n + 1) else Broken) (both-true (n == n) (nat_le (length bytes) max_frame) (same-nat n) (small-test bytes small))

own-frames : (c i : ℕ) (z : ℤ) (fs : List (List ℕ)) → list_all (is_own c) (frame_lines c i z fs) ≡ true
own-frames c i z [] = refl
own-frames c i z (f ∷ fs) = both-true (c == c) (list_all (is_own c) (frame_lines c (counted_up (i + 1)) z fs)) (same-nat c) (own-frames c (counted_up (i + 1)) z fs)

frames-indexed : (c n : ℕ) (z : ℤ) (fs : List (List ℕ)) → All (λ f. length f ≤ max_frame) fs → AreIndexed c n (frame_lines c n z fs)
frames-indexed c n z [] small less = (n, refl)
frames-indexed c n z (f ∷ fs) small less =
    let ls = frame_lines c (counted_up (n + 1)) z fs in
    let one : frames_of c (FrameLine c n z f ∷ ls) ≡ frames_of c ls + 1 = ap (λ b. if b then frames_of c ls + 1 else frames_of c ls) (same-nat c) in
    let up : counted_up (n + 1) ≡ n + 1 = counted-small (n + 1) (omega (arith, less, one)) in
    let later = frames-indexed c (counted_up (n + 1)) z fs (All-tail (λ g. length g ≤ max_frame) f fs small) (omega (arith, less, one, up)) in (
      later.0,
      ap (λ p. progress_from c p ls) (frame-next c n z f (All-head (λ g. length g ≤ max_frame) f fs small))
          ∙ ap (λ m. progress_from c (Opened m) ls) (sym up)
          ∙ later.1,
    )

-- each shows a zxid
zxid-natural : (s : Store) → IsNatural (zxid_at s)
zxid-natural s = go (at (present s) HeadKey) refl
  where
    go : (o : Option Kv) → at (present s) HeadKey ≡ o → IsNatural (mod_of o)
    go None e = natural 0
    go (Some kv) e = (store-natural s (length s.revisions) (key_bytes HeadKey) kv e).revision

frames-natural : (c i : ℕ) (s : Store) (fs : List (List ℕ)) → AreNaturalLines (frame_lines c i (zxid_at s) fs)
frames-natural c i s [] = no-lines
frames-natural c i s (f ∷ fs) = All-cons IsNaturalLine (FrameLine c i (zxid_at s) f) (frame_lines c (counted_up (i + 1)) (zxid_at s) fs) (zxid-natural s) (frames-natural c (counted_up (i + 1)) s fs)

-- ---- a frame's line stands before it is handed in

shown-changes : (w : World) (c : ℕ) (x : Conn) (bytes : List ℕ) → ChangesOne w (shown_frame c w x bytes) c (record x { frames = counted_up (x.frames + 1) }) (FrameLine c x.frames (zxid_at w.store) bytes ∷ [])
shown-changes w c x bytes = record {
  lines = refl;
  clock = refl;
  entries = refl;
  there = conn-here w c (record x { frames = counted_up (x.frames + 1) });
  others = λ d apart. conn-there w c d (record x { frames = counted_up (x.frames + 1) }) apart;
  aside = λ d apart. unnamed-aside d (FrameLine c x.frames (zxid_at w.store) bytes ∷ []) (own-unnamed d c (FrameLine c x.frames (zxid_at w.store) bytes ∷ []) apart (one-own c));
}

shown-in_step : (w : World) (c : ℕ) (x : Conn) (core : Core) (bytes : List ℕ) → length bytes ≤ max_frame → IsInStep w.lines c x.frames (Connection core) → AreCounted (shown_frame c w x bytes).lines → IsInStep (shown_frame c w x bytes).lines c (counted_up (x.frames + 1)) (Connection core)
shown-in_step w c x core bytes small in_step n =
    let one : frames_of c (FrameLine c x.frames (zxid_at w.store) bytes ∷ []) ≡ 0 + 1 = ap (λ b. if b then 0 + 1 else 0) (same-nat c) in
    let all = frames_of-append c w.lines (FrameLine c x.frames (zxid_at w.store) bytes ∷ []) in
    let count = in_step-count w.lines c x.frames in_step.1 in
    let less = n.frames c in
    let up : counted_up (x.frames + 1) ≡ x.frames + 1 = counted-small (x.frames + 1) (omega (arith, one, all, count, less)) in (
      in_step.0,
      progress-append c w.lines (FrameLine c x.frames (zxid_at w.store) bytes ∷ [])
          ∙ ap (λ p. progress_from c p (FrameLine c x.frames (zxid_at w.store) bytes ∷ [])) in_step.1
          ∙ frame-next c x.frames (zxid_at w.store) bytes small
          ∙ ap Opened (sym up),
    )

shown-proceeds : (w : World) (c : ℕ) (x : Conn) (core : Core) (bytes : List ℕ) → conn_at c w ≡ Some x → x.actor ≡ Connection core → length bytes ≤ max_frame → Proceeds Free w (shown_frame c w x bytes)
shown-proceeds w c x core bytes there actor small =
    one-proceeds Free w (shown_frame c w x bytes) c (record x { frames = counted_up (x.frames + 1) }) (FrameLine c x.frames (zxid_at w.store) bytes ∷ []) (shown-changes w c x bytes)
    (λ p k. record { lines = one-line (FrameLine c x.frames (zxid_at w.store) bytes) (zxid-natural w.store); conn = record { actor = (k.conns c x there).actor; flight = (k.conns c x there).flight } })
    (λ t n. subst (IsInStep (shown_frame c w x bytes).lines c (counted_up (x.frames + 1))) (sym actor)
    (shown-in_step w c x core bytes small (subst (IsInStep w.lines c x.frames) actor (t.used c x there)) n))

-- ---- all of them

frames-proceed : (c : ℕ) (w w' : World) (fs : List (List ℕ)) → All (λ f. length f ≤ max_frame) fs → FramesArrive c w fs w' → Proceeds Free w w'
frames-proceed c w w' [] small h = proceeds-same w w' h
frames-proceed c w w' (f ∷ fs) small (x, mid, found, hd, rest) = go (is_open_conn (conn_at c mid)) (frames-proceed c mid w' fs (All-tail (λ g. length g ≤ max_frame) f fs small)) rest
  where
    is-conn : record x { frames = counted_up (x.frames + 1) } ≡ hd.conn
    is-conn = some_is (sym (conn-here w c (record x { frames = counted_up (x.frames + 1) })) ∙ hd.found)

    actor : x.actor ≡ Connection hd.core
    actor = ap (λ (u : Conn). u.actor) is-conn ∙ hd.serving

    indexed : AreIndexed c hd.conn.frames (frame_lines c (counted_up (x.frames + 1)) (zxid_at w.store) fs)
    indexed = subst (λ (u : Conn). AreIndexed c u.frames (frame_lines c (counted_up (x.frames + 1)) (zxid_at w.store) fs)) is-conn (frames-indexed c (counted_up (x.frames + 1)) (zxid_at w.store) fs (All-tail (λ g. length g ≤ max_frame) f fs small))

    one_more : Proceeds Free w mid
    one_more =
        proceeds-then w (shown_frame c w x f) mid (shown-proceeds w c x hd.core f found actor (All-head (λ g. length g ≤ max_frame) f fs small))
        (handed-proceeds Free (shown_frame c w x f) mid c (frame_lines c (counted_up (x.frames + 1)) (zxid_at w.store) fs) (input.Frame f) hd (own-frames c (counted_up (x.frames + 1)) (zxid_at w.store) fs) (frames-natural c (counted_up (x.frames + 1)) w.store fs) (λ p k. tt) indexed)

    go : (b : Bool) → (FramesArrive c mid fs w' → Proceeds Free mid w') → MatchBool b (FramesArrive c mid fs w') (w' ≡ mid) → Proceeds Free w w'
    go true later r = proceeds-then w mid w' one_more (later r)
    go false later r = proceeds-then w mid w' one_more (proceeds-same mid w' r)

-- a length out of range
badly-proceeds : (c : ℕ) (w w' : World) (place : ℕ) (bad : Option ℤ) → EndsBadly c w place bad w' → Proceeds Free w w'
badly-proceeds c w w' place None h = proceeds-same w w' h
badly-proceeds c w w' place (Some n) h = go (is_open_conn (conn_at c w)) h
  where
    go : (b : Bool) → MatchBool b (Handed c [] w (input.BadLength place n) w') (w' ≡ w) → Proceeds Free w w'
    go true hd = handed-proceeds Free w w' c [] (input.BadLength place n) hd refl no-lines (λ p k. tt) (none-indexed c hd.conn.frames)
    go false e = proceeds-same w w' e

pub arrives-proceeds : (c : ℕ) (w w' : World) (bytes : List ℕ) → Arrives c w bytes w' → Proceeds Free w w'
arrives-proceeds c w w' bytes a =
    let v : Conn = record (a.conn) { stream = a.stream } in
    let w1 : World = with_conn w c v in
    proceeds-then w w1 w' (alike-proceeds w c a.conn v a.found refl refl (λ f. f))
    (proceeds-then w1 a.mid w' (frames-proceed c w1 a.mid a.frames (framed-small _ a.frames (a.cuts).rest (a.cuts).framed) a.arrive) (badly-proceeds c a.mid w' (a.stream).place a.bad a.ends))
