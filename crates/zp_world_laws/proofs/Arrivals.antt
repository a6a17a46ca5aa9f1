-- Bytes of a client arrive: the frames that are whole with them come one after the other, and the world stays whole and known.
use Rattle.ev_types.specs.Store.{Store}
use Rattle.std.proofs.Common.{Bool, List, [], ap, append-nil, append_assoc, arith, false, inl, inr, length, refl, subst, sym, true, ℕ, ℤ, ◌++◌, ◌+◌, ◌<◌, ◌∙◌, ◌∷◌, ◌≡◌, ◌≤◌}
use Rattle.std.proofs.lemmas.Bool.Decides.{nat_tests}
use Rattle.std.proofs.lemmas.List.Elements.{All-cons, All-head, All-nil, All-tail}
use Rattle.std.specs.List.{list_all}
use Rattle.std.specs.Prelude.{All, MatchBool, None, Option, Some, nat_lt, ◌==◌, ◌⊎◌}
use Rattle.zk_jute.specs.Frames.{Framed, IsFrame}
use Rattle.zk_jute.specs.JuteValues.{Spelled}
use Rattle.zk_model.specs.Limits.{max_frame}
use Rattle.zk_transcript.specs.History.{after}
use Rattle.zk_transcript.specs.Walks.{placed_frame}
use Rattle.zk_service.specs.declared.cause.Cause.TheVariants as cause
use Rattle.zk_transcript.specs.declared.transcript.TranscriptLine.TheVariants.{Frame as FrameLine}
use Rattle.zk_transcript.specs.declared.transcript.TranscriptLine.{TranscriptLine}
use Rattle.zp_script.specs.Arriving.{Arrives, EndsBadly, FramesArrive, frame_lines, shown_frame}
use Rattle.zp_script.specs.Handing.{Handed}
use Rattle.zp_script.specs.Worlds.{Actor, Closed, Conn, Connection, Reaper, World, conn_at, is_open_conn, with_conn, zxid_at}
use Rattle.zp_step.proofs.Counting.{counted-small}
use Rattle.zp_step.specs.Stages.{Core, counted_up, max_count}
use Rattle.zp_step.specs.declared.input.Input.TheVariants as input
use Rattle.zp_world_laws.proofs.Acting.{Acts, acts-entries, acts-known, acts-within, is_own}
use Rattle.zp_world_laws.proofs.Arriving.{alike-whole, lines-shown, shown-whole, zxid-shown}
use Rattle.zp_world_laws.proofs.Closing.{but-of}
use Rattle.zp_world_laws.proofs.Frames.{HasJustCome, frame-acts, frame-placed, lined-frame}
use Rattle.zp_world_laws.proofs.Knowing.{GrowsBeside, grows-plain, stage-push}
use Rattle.zp_world_laws.proofs.Numbers.{conn-here, conn-there}
use Rattle.zp_world_laws.proofs.Rising.{badly-grown, frames-grown}
use Rattle.zp_world_laws.proofs.Stepping.{closes-acts}
use Rattle.zp_world_laws.proofs.Within.{within-frame}
use Rattle.zp_world_laws.specs.Accounting.{IsAccounted}
use Rattle.zp_world_laws.specs.Connecting.{IsInStage}
use Rattle.zp_world_laws.specs.Connections.{Whole}
use Rattle.zp_world_laws.specs.Counting.{HasFrames, IsLined}
use Rattle.zp_world_laws.specs.Knowing.{IsKnownAs, Known}
use Rattle.zp_world_laws.specs.Reaping.{IsReapFlight}
use Rattle.zx_base.proofs.Options.{some_is}
use Rattle.zx_base.proofs.Booleans.{and-both as both-true, same-test as same-nat}

pub spelled-small : (fs : List (List ℕ)) (front : List ℕ) → Spelled IsFrame fs front → All (λ f. length f ≤ max_frame) fs
spelled-small [] front h = All-nil (λ f. length f ≤ max_frame)
spelled-small (f ∷ fs) front (a, rest, one, more, e) = All-cons (λ g. length g ≤ max_frame) f fs one.2 (spelled-small fs rest more)

pub framed-small : (bytes : List ℕ) (fs : List (List ℕ)) (rest : List ℕ) → Framed bytes fs rest → All (λ f. length f ≤ max_frame) fs
framed-small bytes fs rest h = spelled-small fs h.0 h.1

pub acts-accounted : (w w' : World) (c : ℕ) → IsAccounted w → Acts w w' c → IsAccounted w'
acts-accounted w w' c k a = record { whole = a.whole; known = acts-known w w' c k.whole k.known a; entries = acts-entries w w' c k.entries a; within = acts-within w w' c k.within a }

-- ---- a frame is shown and handed in

-- who acts once the frame's line was added acts from the world before that
acts-shown : (w w' : World) (c : ℕ) (x : Conn) (frame : List ℕ) → conn_at c w ≡ Some x → x.frames < max_count → Acts (shown_frame c w x frame) w' c → Acts w w' c
acts-shown w w' c x frame there small a = record {
  whole = a.whole;
  store = a.store;
  entries = a.entries;
  more = FrameLine c x.frames (zxid_at w.store) frame ∷ a.more;
  lines = a.lines ∙ append_assoc w.lines (FrameLine c x.frames (zxid_at w.store) frame ∷ []) a.more;
  own = both-true (c == c) (list_all (is_own c) a.more) (same-nat c) a.own;
  others = λ d apart. a.others d apart ∙ conn-there w c d (record x { frames = counted_up (x.frames + 1) }) apart;
  now = a.now;
  there = a.there;
  frames = λ y e. (
      let same : x ≡ y = some_is (sym there ∙ e) in
      let up = counted-small (x.frames + 1) (omega (arith, small)) in
      let more = a.frames (record x { frames = counted_up (x.frames + 1) }) (conn-here w c (record x { frames = counted_up (x.frames + 1) })) in
      omega (arith, ap (λ (v : Conn). v.frames) same, up, more));
  known = a.known;
  within = λ q. a.within (within-frame w.lines c x.frames (zxid_at w.store) frame q);
}

pub core-of : (w : World) (c : ℕ) (x : Conn) (core : Core) → Known w → conn_at c w ≡ Some x → x.actor ≡ Connection core → HasFrames w.lines c x.frames core × IsInStage w.store w.lines c core x.flight core.stage
core-of w c x core k there actor = subst (IsKnownAs w.store w.lines c x) actor (k.used c x there)

module _ (w mid : World) (c : ℕ) (x : Conn) (frame : List ℕ) (more : List (List ℕ)) (k : IsAccounted w) (there : conn_at c w ≡ Some x) (small : All (λ f. length f ≤ max_frame) (frame ∷ more)) (count : x.frames < max_count)
    (hd : Handed c (frame_lines c (counted_up (x.frames + 1)) (zxid_at w.store) more) (shown_frame c w x frame) (input.Frame frame) mid) where
  w1 : World
  w1 = shown_frame c w x frame

  is-conn : record x { frames = counted_up (x.frames + 1) } ≡ hd.conn
  is-conn = some_is (sym (conn-here w c (record x { frames = counted_up (x.frames + 1) })) ∙ hd.found)

  up : counted_up (x.frames + 1) ≡ x.frames + 1
  up = counted-small (x.frames + 1) (omega (arith, count))

  frames-are : hd.conn.frames ≡ x.frames + 1
  frames-are = ap (λ (v : Conn). v.frames) (sym is-conn) ∙ counted-small (x.frames + 1) (omega (arith, count))

  actor : x.actor ≡ Connection hd.core
  actor = ap (λ (v : Conn). v.actor) is-conn ∙ hd.serving

  before : HasFrames w.lines c x.frames hd.core × IsInStage w.store w.lines c hd.core x.flight hd.core.stage
  before = core-of w c x hd.core k.known there (ap (λ (v : Conn). v.actor) is-conn ∙ hd.serving)

  whole1 : Whole (shown_frame c w x frame)
  whole1 = shown-whole w c x frame there (All-head (λ f. length f ≤ max_frame) frame more small) k.whole

  l : TranscriptLine
  l = FrameLine c x.frames (zxid_at w.store) frame

  grows : GrowsBeside w.store w.store w.lines (FrameLine c x.frames (zxid_at w.store) frame ∷ []) c
  grows = grows-plain w.store w.lines (FrameLine c x.frames (zxid_at w.store) frame) c (((k.whole).holds).serves).legal ((whole1.holds).serves).legal refl

  just : HasJustCome (shown_frame c w x frame) c hd.conn hd.core frame
  just = record {
    lined = subst (λ n. IsLined (w.lines ++ FrameLine c x.frames (zxid_at w.store) frame ∷ []) c n) (sym frames-are) (lined-frame w.lines c x.frames (zxid_at w.store) frame (before.0).lined);
    numbered = (before.0).numbered;
    came = omega (arith, (before.0).came, frames-are);
    most = omega (arith, frames-are, count);
    place = length w.lines;
    framed = ap (λ n. placed_frame c n (w.lines ++ FrameLine c x.frames (zxid_at w.store) frame ∷ [])) (before.0).came ∙ frame-placed w.lines c x.frames (zxid_at w.store) frame ((before.0).lined.to_come x.frames (omega arith));
    stage = subst (λ f. IsInStage w.store (w.lines ++ FrameLine c x.frames (zxid_at w.store) frame ∷ []) c hd.core f hd.core.stage) (ap (λ (v : Conn). v.flight) is-conn) (stage-push w.store w.store w.lines (FrameLine c x.frames (zxid_at w.store) frame ∷ []) c grows hd.core x.flight hd.core.stage before.1);
  }

  pub arrival-acts : Acts w mid c
  arrival-acts =
      let last : zxid_at w.store ≡ (after (w.lines ++ FrameLine c x.frames (zxid_at w.store) frame ∷ [])).zxid = zxid-shown (shown_frame c w x frame) whole1 in
      acts-shown w mid c x frame there count
      (frame-acts (shown_frame c w x frame) mid c (frame_lines c (counted_up (x.frames + 1)) (zxid_at w.store) more) (zxid_at w.store) frame hd last
      (lines-shown c (counted_up (x.frames + 1)) (zxid_at w.store) more (All-tail (λ f. length f ≤ max_frame) frame more small)) whole1 just)

-- ---- one after the other

pub nat-either : (a b : ℕ) → (a < b) ⊎ (b ≤ a)
nat-either a b = go (nat_lt a b) refl
  where
    go : (t : Bool) → nat_lt a b ≡ t → (a < b) ⊎ (b ≤ a)
    go true e = inl (grind (arith, nat_tests))
    go false e = inr (grind (arith, nat_tests))

pub frames-accounted : (c : ℕ) (w w' : World) (x : Conn) (fs : List (List ℕ)) → conn_at c w ≡ Some x → All (λ f. length f ≤ max_frame) fs → ((y : Conn) → conn_at c w' ≡ Some y → y.frames < max_count) → IsAccounted w → FramesArrive c w fs w' → IsAccounted w'
frames-accounted c w w' x [] there small count k h = subst IsAccounted (sym h) k
frames-accounted c w w' x (f ∷ fs) there small count k (y, mid, found, hd, rest) = go (is_open_conn (conn_at c mid)) (λ v at j r. frames-accounted c mid w' v fs at (All-tail (λ g. length g ≤ max_frame) f fs small) count j r) rest
  where
    room : y.frames < max_count
    room = elim (nat-either y.frames max_count) [
      | inl less ↦ less
      | inr full ↦ (let t = (frames-grown c w w' (f ∷ fs) (y, mid, found, hd, rest)).conns c y found in let less = count t.0 t.1 in absurd (omega (arith, less, t.2 full)))
    ]

    a : Acts w mid c
    a = arrival-acts w mid c y f fs k found small room hd

    go : (b : Bool) → ((v : Conn) → conn_at c mid ≡ Some v → IsAccounted mid → FramesArrive c mid fs w' → IsAccounted w') → MatchBool b (FramesArrive c mid fs w') (w' ≡ mid) → IsAccounted w'
    go true later r = later a.now a.there (acts-accounted w mid c k a) r
    go false later r = subst IsAccounted (sym r) (acts-accounted w mid c k a)

-- ---- a length out of range after them

ends-badly : (c : ℕ) (w w' : World) (place : ℕ) (bad : Option ℤ) → EndsBadly c w place bad w' → IsAccounted w → IsAccounted w'
ends-badly c w w' place None h k = subst IsAccounted (sym h) k
ends-badly c w w' place (Some n) h k = go (is_open_conn (conn_at c w)) h
  where
    go : (b : Bool) → MatchBool b (Handed c [] w (input.BadLength place n) w') (w' ≡ w) → IsAccounted w'
    go true hd = acts-accounted w w' c k (closes-acts w w' c (input.BadLength place n) (cause.BadLength place n) refl hd (but-of w c k.whole))
    go false e = subst IsAccounted (sym e) k

-- ---- all of it

alike-known : (s : Store) (lines : List TranscriptLine) (c : ℕ) (x v : Conn) (a : Actor) → v.frames ≡ x.frames → v.flight ≡ x.flight → IsKnownAs s lines c x a → IsKnownAs s lines c v a
alike-known s lines c x v (Connection core) frames flight (n, st) = (subst (λ i. HasFrames lines c i core) (sym frames) n, subst (λ f. IsInStage s lines c core f core.stage) (sym flight) st)
alike-known s lines c x v (Reaper r) frames flight k = subst (IsReapFlight s r) (sym flight) k
alike-known s lines c x v Closed frames flight k = k

-- a connection with another stream
pub alike-acts : (w : World) (c : ℕ) (x v : Conn) → conn_at c w ≡ Some x → v.actor ≡ x.actor → v.flight ≡ x.flight → v.frames ≡ x.frames → IsAccounted w → Acts w (with_conn w c v) c
alike-acts w c x v there actor flight frames k = record {
  whole = alike-whole w c x v there actor flight k.whole;
  store = refl;
  entries = refl;
  more = [];
  lines = sym (append-nil w.lines);
  own = refl;
  others = λ d apart. conn-there w c d v apart;
  now = v;
  there = conn-here w c v;
  frames = λ y e. (let same = ap (λ (u : Conn). u.frames) (some_is (sym there ∙ e)) in omega (arith, same, frames));
  known = subst (IsKnownAs w.store w.lines c v) (sym actor) (alike-known w.store w.lines c x v x.actor frames flight ((k.known).used c x there));
  within = λ q. q;
}

pub arrives-accounted : (c : ℕ) (w w' : World) (bytes : List ℕ) → ((y : Conn) → conn_at c w' ≡ Some y → y.frames < max_count) → Arrives c w bytes w' → IsAccounted w → IsAccounted w'
arrives-accounted c w w' bytes count a k =
    let v : Conn = record (a.conn) { stream = a.stream } in
    let w1 : World = with_conn w c v in
    let k1 = acts-accounted w w1 c k (alike-acts w c a.conn v a.found refl refl refl k) in
    ends-badly c a.mid w' (a.stream).place a.bad a.ends
    (frames-accounted c w1 a.mid v a.frames (conn-here w c v) (framed-small (a.conn.stream.rest ++ bytes) a.frames (a.cuts).rest (a.cuts).framed)
    (λ y e. elim (nat-either y.frames max_count) [
      | inl less ↦ less
      | inr full ↦ (let t = (badly-grown c a.mid w' (a.stream).place a.bad a.ends).conns c y e in let less = count t.0 t.1 in absurd (omega (arith, less, t.2 full)))
    ]) k1 a.arrive)
