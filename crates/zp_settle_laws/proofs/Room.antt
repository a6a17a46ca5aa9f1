-- A store with room denies nothing that an attached connection asks.
use Rattle.std.proofs.Common.{◌≡◌, ℕ, zero, suc, ◌≤◌, List, [], ◌∷◌, ◌++◌, length, take, refl, sym, ap, ◌∙◌, subst, arith, Bool, true, false, ℤ, pos, inl, inr}
use Rattle.std.specs.Prelude.{Contains, Option, Some, None, ◌≤ℤ◌, ◌<ℤ◌, ◌&&◌, ◌||◌, if◌then◌else◌, int_lt, not}
use Rattle.std.specs.Cmp.Lexicographic.{slice_cmp}
use Rattle.std.specs.FinMap.{get, get-empty}
use Rattle.std.specs.List.{list_any}
use Rattle.std.specs.Ordering.{int_eq, nat_cmp}
use Rattle.std.proofs.lemmas.Bool.{le-ltb}
use Rattle.std.proofs.lemmas.Int.{ints}
use Rattle.std.proofs.lemmas.List.Elements.{All-contains}
use Rattle.ev_types.proofs.Allowed.{plain-not_denied}
use Rattle.ev_types.specs.Denials.{carry, is_compacted, is_denied, is_full_store, is_future, names_missing, writes_twice}
use Rattle.ev_types.specs.Ranges.{Keys}
use Rattle.ev_types.specs.Store.{Store, acts_from, carried_out, last_revision, mod_of, new_store, revision, store_at, worked}
use Rattle.ev_types.specs.declared.answer.Kv.{Kv}
use Rattle.ev_types.specs.declared.ask.Ask.{Ask}
use Rattle.ev_types.specs.declared.ask.Ask.TheVariants as ask
use Rattle.ev_types.specs.declared.ask.Guard.{Guard}
use Rattle.zk_model.specs.declared.request.Request.{Request}
use Rattle.zk_transcript.proofs.Prefixes.{is_legal-begins, is_legal-take}
use Rattle.zk_transcript.proofs.SoundHistories.{legal-sound}
use Rattle.zk_service.specs.States.{IsSound, State, nothing_yet}
use Rattle.zk_transcript.specs.History.{after, after_from, state_at}
use Rattle.zk_transcript.specs.Legal.{begins}
use Rattle.zk_transcript.specs.declared.transcript.TranscriptLine.{TranscriptLine}
use Rattle.zk_transcript.specs.declared.transcript.TranscriptLine.TheVariants.{Update, Open, Frame as FrameLine, Send, Lapse, Close}
use Rattle.zn_layout.specs.Keys.{HeadKey, key_bytes}
use Rattle.zn_layout.specs.StandsFor.{HeadMeans, at}
use Rattle.zn_view.proofs.Members.{In, contains_in, in_contains}
use Rattle.zn_view.specs.Asks.{guards_of, lease_guard, ranges_of, reading, transaction}
use Rattle.zn_view.specs.Seen.{View}
use Rattle.zn_view.specs.declared.plan.Plan.{Plan}
use Rattle.zn_view.specs.declared.plan.Who.{Who}
use Rattle.zn_view.specs.declared.snapshot.SeenKey.{SeenKey}
use Rattle.zn_view.specs.declared.want.Want.{Want}
use Rattle.zn_view.specs.declared.want.Want.TheVariants as want
use Rattle.zs_session.specs.Sessions.{attach_wants}
use Rattle.zx_base.proofs.Options.{none_some, some_is}
use Rattle.zx_base.specs.Maps.{Bytes, same}
use Rattle.zp_laws.proofs.Revisions.{IsFoundIn, made-found}
use Rattle.zp_laws.specs.Inputs.{Precedes}
use Rattle.zp_laws.specs.Standing.{IsBoundPlan, Knows}
use Rattle.zp_step.specs.Looking.{max_ranges}
use Rattle.zp_step.specs.Stages.{Core, Stage, Unconnected, Connecting, Ready, KeepingAlive, Checking, Reading, Committing, Waiting, Shut, asked_of}
use Rattle.zp_script.specs.declared.flight.Flight.{Flight}
use Rattle.zp_world_laws.proofs.Arrivals.{nat-either}
use Rattle.zp_world_laws.specs.Connections.{IsServingConn}
use Rattle.zp_world_laws.specs.Serving.{StoreServes, moment_of}
use Rattle.zx_base.proofs.Booleans.{and-false, or-neither as both_false, true-not_false as true-false}

-- ---- the store of a script: nothing was compacted, and it began as a new one

pub record IsOfScript (s : Store) : Type 0 where
  pub floor : s.floor ≡ pos 0
  pub begun : Precedes new_store s

new-none : (n : ℕ) (k : Bytes) → n ≤ 1 → get (store_at new_store n) k ≡ None
unfolding store_at
new-none zero k h = get-empty (slice_cmp nat_cmp) k
new-none (suc zero) k h = get-empty (slice_cmp nat_cmp) k
new-none (suc (suc n)) k h = absurd (omega (arith, h))

-- what is there was there at the second revision at the earliest
pub later-there : (s : Store) (n : ℕ) (k : Bytes) (kv : Kv) → IsOfScript s → get (store_at s n) k ≡ Some kv → 2 ≤ n
later-there s n k kv o e = elim (nat-either n 2) [
  | inl less ↦ let le : n ≤ 1 = omega (arith, less) in absurd (none_some (sym (new-none n k le) ∙ sym (ap (λ (m : Keys). get m k) ((o.begun).same n le)) ∙ e))
  | inr le ↦ le
]

-- ---- a moment of a revision is one of a legal history

quiet-front : (before : List TranscriptLine) (s : State) (ls : List TranscriptLine) (m : ℕ) → begins ls ≡ true → begins (take m ls) ≡ false → after_from before s (take m ls) ≡ s
quiet-front before s [] zero b n = refl
quiet-front before s [] (suc m) b n = refl
quiet-front before s (l ∷ ls) zero b n = refl
quiet-front before s (Update u ∷ ls) (suc m) b n = absurd (true-false (sym b ∙ n))
quiet-front before s (Lapse revision id ∷ ls) (suc m) b n = absurd (true-false (sym b))
quiet-front before s (Open c p id passwd layout ∷ ls) (suc m) b n = quiet-front (before ++ Open c p id passwd layout ∷ []) s ls m b n
quiet-front before s (FrameLine c i z bytes ∷ ls) (suc m) b n = quiet-front (before ++ FrameLine c i z bytes ∷ []) s ls m b n
quiet-front before s (Send c bytes ∷ ls) (suc m) b n = quiet-front (before ++ Send c bytes ∷ []) s ls m b n
quiet-front before s (Close c end ∷ ls) (suc m) b n = quiet-front (before ++ Close c end ∷ []) s ls m b n

front-nothing : (lines : List TranscriptLine) (m : ℕ) → begins lines ≡ true → begins (take m lines) ≡ false → state_at lines m ≡ nothing_yet
unfolding after
front-nothing lines m b n = quiet-front [] nothing_yet lines m b n

-- so the state of each revision is sound
pub sound-at : (s : Store) (lines : List TranscriptLine) (n : ℕ) → StoreServes s lines → 2 ≤ n → n ≤ length s.revisions → IsSound (state_at lines (moment_of lines (pos n)))
sound-at s lines n w lo hi = go (begins (take (moment_of lines (pos n)) lines)) refl
  where
    by-head : (o : Option Kv) → at (store_at s n) HeadKey ≡ o → HeadMeans o (state_at lines (moment_of lines (pos n))) → state_at lines (moment_of lines (pos n)) ≡ nothing_yet → ⊥
    by-head None e h none = h
    by-head (Some kv) e h none =
        let least = ((w.stands n lo hi).layout).least (key_bytes HeadKey) kv e in
        let zero_is : kv.mod_revision ≡ pos 0 = h.zxid ∙ ap (λ (x : State). x.zxid) none in
        omega (arith, ints, least, zero_is)

    go : (b : Bool) → begins (take (moment_of lines (pos n)) lines) ≡ b → IsSound (state_at lines (moment_of lines (pos n)))
    go true e = legal-sound (take (moment_of lines (pos n)) lines) (is_legal-take lines (moment_of lines (pos n)) e w.legal)
    go false e = absurd (by-head (at (store_at s n) HeadKey) refl (w.stands n lo hi).head (front-nothing lines (moment_of lines (pos n)) (is_legal-begins lines w.legal) e))

-- ---- a look at a revision that there is

ranges-still : (s : Store) (r : ℤ) (m : Keys) (z : ℤ) (ws : List Want) → (acts_from s r m (ranges_of z ws)).changes ≡ []
ranges-still s r m z [] = refl
ranges-still s r m z (w ∷ ws) = ranges-still s r m z ws

worked-still : (s : Store) (z : ℤ) (ws : List Want) → (worked s (ranges_of z ws)).changes ≡ []
unfolding worked
worked-still s z ws = ranges-still s _ _ z ws

ranges-once : (z : ℤ) (ws : List Want) → writes_twice (ranges_of z ws) ≡ false
ranges-once z [] = refl
ranges-once z (w ∷ ws) = ranges-once z ws

ranges-long : (z : ℤ) (ws : List Want) → length (ranges_of z ws) ≡ length ws
ranges-long z [] = refl
ranges-long z (w ∷ ws) = omega (arith, ranges-long z ws)

module _ (s : Store) (floor : s.floor ≡ pos 0) (n : ℕ) (le : n ≤ length s.revisions) where
  named : (is_future s (pos n) || is_compacted s (pos n)) ≡ false
  named =
      both_false (is_future s (pos n)) (is_compacted s (pos n)) (le-ltb (length s.revisions) n le)
      (ap (λ (f : ℤ). not (int_eq (pos n) (pos 0)) && int_lt (pos n) f) floor ∙ ap (λ b. not (int_eq (pos n) (pos 0)) && b) (le-ltb n 0 (omega arith)) ∙ and-false (not (int_eq (pos n) (pos 0))))

  ranges-named : (ws : List Want) → list_any (names_missing s) (ranges_of (pos n) ws) ≡ false
  ranges-named [] = refl
  ranges-named (want.Key k ∷ ws) = both_false _ _ named (ranges-named ws)
  ranges-named (want.Children p ∷ ws) = both_false _ _ named (ranges-named ws)

  reading-allowed : (ws : List Want) → length ws ≤ max_ranges → is_denied s (reading (pos n) ws) ≡ false
  reading-allowed ws few = plain-not_denied s (record { guards = []; success = ranges_of (pos n) ws; failure = [] }) (record {
    guards = omega arith;
    success = omega (arith, few, ranges-long (pos n) ws);
    failure = omega arith;
    success_once = ranges-once (pos n) ws;
    failure_once = refl;
    success_named = ranges-named ws;
    failure_named = refl;
    room = ap (is_full_store s) (worked-still s (pos n) ws);
  })

alive-allowed : (s : Store) (id : ℤ) → is_denied s (ask.Alive id) ≡ false
unfolding is_denied
alive-allowed s id = refl

-- ---- a plan, which guards the record of its session's life

-- the key of a guard among those that were seen
record IsOf (xs : List SeenKey) (g : Guard) : Type 0 where
  seen_key : SeenKey
  among : In seen_key xs
  at_key : seen_key.key ≡ g.key
  put : mod_of seen_key.found ≡ g.mod_revision

guard-of : (xs : List SeenKey) (g : Guard) → In g (guards_of xs) → IsOf xs g
guard-of [] g h = absurd h
guard-of (x ∷ xs) g h = go (same x.key (key_bytes HeadKey)) (guard-of xs g) h
  where
    later : IsOf xs g → IsOf (x ∷ xs) g
    later y = record { seen_key = y.seen_key; among = inr y.among; at_key = y.at_key; put = y.put }

    go : (b : Bool) → (In g (guards_of xs) → IsOf xs g) → In g (if b then guards_of xs else record { key = x.key; mod_revision = mod_of x.found } ∷ guards_of xs) → IsOf (x ∷ xs) g
    go true rest k = later (rest k)
    go false rest (inl e) = record { seen_key = x; among = inl refl; at_key = ap (λ (y : Guard). y.key) e; put = ap (λ (y : Guard). y.mod_revision) e }
    go false rest (inr k) = later (rest k)

module _ (s : Store) (who : Who) (r : Request) (v : View) (p : Plan) (time : ℕ) (b : IsBoundPlan s who r v p time) where
  -- the view found that record
  saw-life : IsOf v.keys (lease_guard who)
  saw-life =
      let asked = (b.good).asked in
      let guarded = subst (λ (gs : List Guard). Contains gs (lease_guard who)) asked.guards asked.lease in
      let x = guard-of asked.keys (lease_guard who) (contains_in (lease_guard who) (guards_of asked.keys) guarded) in
      record { seen_key = x.seen_key; among = contains_in x.seen_key v.keys (All-contains (Contains v.keys) asked.keys x.seen_key asked.among (in_contains x.seen_key asked.keys x.among)); at_key = x.at_key; put = x.put }

  plan-number : IsOfScript s → pos 1 ≤ℤ who.mine → 2 ≤ b.number
  plan-number o rises = go (saw-life.seen_key).found refl
    where
      m : Keys
      m = store_at s b.number

      found : IsFoundIn m saw-life.seen_key
      found = All-contains (IsFoundIn m) v.keys saw-life.seen_key (made-found r v p m b.made_of) (in_contains saw-life.seen_key v.keys saw-life.among)

      go : (o : Option Kv) → (saw-life.seen_key).found ≡ o → 2 ≤ b.number
      go None e = absurd (let zero_is : pos 0 ≡ who.mine = sym (ap mod_of e) ∙ saw-life.put in omega (arith, ints, rises, zero_is))
      go (Some kv) e = later-there s b.number (saw-life.seen_key).key kv o (found kv e)

  plan-allowed : (lines : List TranscriptLine) → StoreServes s lines → IsOfScript s → pos 1 ≤ℤ who.mine → revision s <ℤ last_revision → is_denied s (transaction p) ≡ false
  plan-allowed lines w o rises room =
      let n = b.number in
      let lo = plan-number o rises in
      let x = state_at lines (moment_of lines (pos n)) in
      elim b.made_of [
        | inl agrees ↦ ((b.good).taken x (sound-at s lines n w lo b.known) (store_at s n, w.stands n lo b.known, agrees)).allowed s room
        | inr guess ↦ (guess.taken).allowed s room
      ]

-- ---- whatever is out

-- a round looks up few things
abbrev pub AsksFew : Stage → Type 0
AsksFew (Reading xid r v ws) = length ws ≤ max_ranges
AsksFew _ = Unit {0}

module _ (s : Store) (lines : List TranscriptLine) (c : ℕ) (core : Core) (flight : Option Flight) (w : StoreServes s lines) (o : IsOfScript s) (room : revision s <ℤ last_revision) (k : IsServingConn s lines c core flight) where
  reads-allowed : (v : View) (n : ℕ) (ws : List Want) → v.revision ≡ pos n → n ≤ length s.revisions → length ws ≤ max_ranges → is_denied s (reading v.revision ws) ≡ false
  reads-allowed v n ws e le few = subst (λ z. is_denied s (reading z ws) ≡ false) (sym e) (reading-allowed s o.floor n le ws few)

  in-stage : (st : Stage) (q : Ask) → AsksFew st → Knows s lines c core k.walker k.looked st → asked_of core.who st ≡ Some q → is_denied s q ≡ false
  in-stage (Unconnected fresh) q few h e = absurd (none_some e)
  in-stage (Connecting x) q few h e = absurd h
  in-stage Ready q few h e = absurd (none_some e)
  in-stage (KeepingAlive f) q few h e = subst (λ y. is_denied s y ≡ false) (some_is e) (alive-allowed s core.who.session)
  in-stage (Checking f) q few h e = subst (λ y. is_denied s y ≡ false) (some_is e) (reading-allowed s o.floor 0 (omega arith) (attach_wants core.who.session) (omega arith))
  in-stage (Reading xid r v ws) q few (tree, inl none) e = subst (λ y. is_denied s y ≡ false) (some_is e) (reads-allowed v 0 ws none.0 (omega arith) few)
  in-stage (Reading xid r v ws) q few (tree, inr view) e = subst (λ y. is_denied s y ≡ false) (some_is e) (reads-allowed v view.number ws view.revision view.known few)
  in-stage (Committing xid r v p m) q few (tree, b) e = subst (λ y. is_denied s y ≡ false) (some_is e) (plan-allowed s core.who r v p m b lines w o k.rises room)
  in-stage (Waiting p) q few h e = absurd (none_some e)
  in-stage Shut q few h e = absurd (none_some e)

  pub serving-allowed : (q : Ask) → AsksFew core.stage → asked_of core.who core.stage ≡ Some q → is_denied s q ≡ false
  serving-allowed q few e = in-stage core.stage q few (k.stands).knows e

-- it is carried out
pub carries-out : (s : Store) (q : Ask) → is_denied s q ≡ false → carry s q ≡ None → ⊥
unfolding carry
carries-out s q e none = none_some (sym none ∙ ap (λ b. if b then None else Some (carried_out s q)) e)
