-- Pages, one after the other, and a turn of two times pages.
use Rattle.std.proofs.Common.{◌≡◌, ℕ, suc, ◌+◌, ◌-◌, ◌<◌, ℤ, List, [], ◌++◌, refl, sym, ap, subst, arith, append_assoc, append-nil, inl, inr}
use Rattle.std.specs.Prelude.{pos, ◌≤ℤ◌, Bool, false, ◌||◌, Option, Some, None, Result, Ok, Err}
use Rattle.ev_call.specs.Calls.{Call}
use Rattle.zs_reaper.specs.declared.calling.TurnFault.{TurnFault}
use Rattle.zs_reaper.specs.declared.calling.TurnFault.TheVariants as turn
use Rattle.zs_reaper.specs.declared.listing.Listed.{Listed}
use Rattle.zs_reaper.specs.declared.turning.Page.{Page}
use Rattle.zs_reaper.specs.Calling.{LinkTold, Makes}
use Rattle.zs_reaper.specs.Listing.{Lists, behind}
use Rattle.zs_reaper.specs.Reaping.{ReapsEach, or_damaged}
use Rattle.zs_reaper.specs.Turning.{AfterNext, IsPage, IsPlace, Pages, Turns, max_lists, place_of}
use Rattle.zs_reaper.proofs.Each.{or_assoc, or_none}
use Rattle.zs_reaper.proofs.Listed.{list_none}
use Rattle.zs_reaper.proofs.Making.{made_as, made_then, no_calls}

-- ---- one page

pub page_unlisted : (from end : List ℕ) (f : TurnFault) (old new : LinkTold) → Makes (Lists from end (Err f)) old new → Makes (IsPage from end (Err f)) old new
page_unlisted from end f old new m = made_as (Lists from end (Err f)) (IsPage from end (Err f)) old new (λ cs l. record { listed = Err f; own = cs; later = []; are = sym (append-nil cs); lists = l; after = (refl, refl) }) m

pub page_cut : (from end : List ℕ) (listed : Listed) (f : TurnFault) (old mid new : LinkTold) → Makes (Lists from end (Ok listed)) old mid → Makes (ReapsEach listed.lapsed (Err f)) mid new → Makes (IsPage from end (Err f)) old new
page_cut from end listed f old mid new m r = made_then (Lists from end (Ok listed)) (ReapsEach listed.lapsed (Err f)) (IsPage from end (Err f)) old mid new (λ xs ys l e. record { listed = Ok listed; own = xs; later = ys; are = refl; lists = l; after = e }) m r

pub page_whole : (from end : List ℕ) (listed : Listed) (is_damaged : Bool) (old mid new : LinkTold) → Makes (Lists from end (Ok listed)) old mid → Makes (ReapsEach listed.lapsed (Ok is_damaged)) mid new → Makes (IsPage from end (Ok (record { is_damaged = is_damaged; next = listed.next }))) old new
page_whole from end listed is_damaged old mid new m r = made_then (Lists from end (Ok listed)) (ReapsEach listed.lapsed (Ok is_damaged)) (IsPage from end (Ok (record { is_damaged = is_damaged; next = listed.next }))) old mid new (λ xs ys l e. record { listed = Ok listed; own = xs; later = ys; are = refl; lists = l; after = (e, refl) }) m r

-- ---- pages, one after the other

-- The pages so far, of at most `all`, lead to the next, which begins here: whatever this many pages fewer from here on come to, all
-- of them come to, with the damage that was found before.
pub record GoesOn (all made : ℕ) (first end from : List ℕ) (damaged : Bool) (calls : List Call) : Type 0 where
  pub on : (left : ℕ) (others : Result Bool TurnFault) (later : List Call) → made + left ≡ all → Pages left from end others later → Pages all first end (or_damaged damaged others) (calls ++ later)

same_with_none : (r : Result Bool TurnFault) → or_damaged false r ≡ r
same_with_none (Ok b) = refl
same_with_none (Err f) = refl

both_damages : (a b : Bool) (r : Result Bool TurnFault) → or_damaged a (or_damaged b r) ≡ or_damaged (a || b) r
both_damages a b (Ok c) = ap Ok (sym (or_assoc a b c))
both_damages a b (Err f) = refl

pub pages_first : (all : ℕ) (first end : List ℕ) (t : LinkTold) → Makes (GoesOn all 0 first end first false) t t
pages_first all first end t = no_calls (GoesOn all 0 first end first false) t (record {
  on = λ left others later same rest.
      let whole : left ≡ all = omega (arith, same) in
      subst (λ (r : Result Bool TurnFault). Pages all first end r later) (sym (same_with_none others)) (subst (λ (n : ℕ). Pages n first end others later) whole rest);
})

-- a page in front of what follows it
page-front : (left : ℕ) (from next end : List ℕ) (page : Page) (others : Result Bool TurnFault) (own later : List Call) → IsPage from end (Ok page) own → page.next ≡ Some next → Pages left next end others later → Pages (suc left) from end (or_damaged page.is_damaged others) (own ++ later)
unfolding Pages
page-front left from next end page others own later p is rest =
    (Ok page, own, later, refl, p, subst (λ (o : Option (List ℕ)). AfterNext page.is_damaged o (or_damaged page.is_damaged others) later (λ n r. Pages left n end r later)) (sym is) (others, rest, refl))

page-last : (left : ℕ) (from end : List ℕ) (page : Page) (own : List Call) → IsPage from end (Ok page) own → page.next ≡ None → Pages (suc left) from end (Ok page.is_damaged) own
unfolding Pages
page-last left from end page own p is =
    (Ok page, own, [], sym (append-nil own), p, subst (λ (o : Option (List ℕ)). AfterNext page.is_damaged o (Ok page.is_damaged) [] (λ n r. Pages left n end r [])) (sym is) (refl, refl))

page-fails : (left : ℕ) (from end : List ℕ) (f : TurnFault) (own : List Call) → IsPage from end (Err f) own → Pages (suc left) from end (Err f) own
unfolding Pages
page-fails left from end f own p = (Err f, own, [], sym (append-nil own), p, (refl, refl))

no-page : (from end : List ℕ) → Pages 0 from end (Ok false) []
unfolding Pages
no-page from end = (refl, refl)

more-left : (made left all : ℕ) → made + 1 + left ≡ all → made + suc left ≡ all
more-left made left all e = omega (arith, e)

left-is : (made all : ℕ) → made < all → (left : ℕ) × (made + suc left ≡ all)
left-is made all below = (all - (made + 1), omega (arith, below))

pub pages_more : (all made : ℕ) (first end from next : List ℕ) (damaged : Bool) (page : Page) (old mid new : LinkTold) → Makes (GoesOn all made first end from damaged) old mid → Makes (IsPage from end (Ok page)) mid new → page.next ≡ Some next → Makes (GoesOn all (made + 1) first end next (damaged || page.is_damaged)) old new
pages_more all made first end from next damaged page old mid new m p is =
    made_then (GoesOn all made first end from damaged) (IsPage from end (Ok page)) (GoesOn all (made + 1) first end next (damaged || page.is_damaged)) old mid new
    (λ xs ys g q. record {
      on = λ left others later same rest.
          let whole = g.on (suc left) (or_damaged page.is_damaged others) (ys ++ later) (more-left made left all same) (page-front left from next end page others ys later q is rest) in
          subst (λ (l : List Call). Pages all first end (or_damaged (damaged || page.is_damaged) others) l) (sym (append_assoc xs ys later))
          (subst (λ (r : Result Bool TurnFault). Pages all first end r (xs ++ (ys ++ later))) (both_damages damaged page.is_damaged others) whole);
    })
    m p

pub pages_last : (all made : ℕ) (first end from : List ℕ) (damaged : Bool) (page : Page) (old mid new : LinkTold) → made < all → Makes (GoesOn all made first end from damaged) old mid → Makes (IsPage from end (Ok page)) mid new → page.next ≡ None → Makes (Pages all first end (Ok (damaged || page.is_damaged))) old new
pages_last all made first end from damaged page old mid new below m p is =
    let left = left-is made all below in
    made_then (GoesOn all made first end from damaged) (IsPage from end (Ok page)) (Pages all first end (Ok (damaged || page.is_damaged))) old mid new
    (λ xs ys g q. g.on (suc left.0) (Ok page.is_damaged) ys left.1 (page-last left.0 from end page ys q is)) m p

pub pages_cut : (all made : ℕ) (first end from : List ℕ) (damaged : Bool) (f : TurnFault) (old mid new : LinkTold) → made < all → Makes (GoesOn all made first end from damaged) old mid → Makes (IsPage from end (Err f)) mid new → Makes (Pages all first end (Err f)) old new
pages_cut all made first end from damaged f old mid new below m p =
    let left = left-is made all below in
    made_then (GoesOn all made first end from damaged) (IsPage from end (Err f)) (Pages all first end (Err f)) old mid new
    (λ xs ys g q. g.on (suc left.0) (Err f) ys left.1 (page-fails left.0 from end f ys q)) m p

-- the last page that there may be was not the last there is
pub pages_left : (all made : ℕ) (first end from : List ℕ) (damaged : Bool) (old new : LinkTold) → made ≡ all → Makes (GoesOn all made first end from damaged) old new → Makes (Pages all first end (Ok damaged)) old new
pages_left all made first end from damaged old new whole m =
    made_as (GoesOn all made first end from damaged) (Pages all first end (Ok damaged)) old new
    (λ cs g. subst (λ (b : Bool). Pages all first end (Ok b) cs) (or_none damaged) (subst (λ (l : List Call). Pages all first end (Ok (damaged || false)) l) (append-nil cs) (g.on 0 (Ok false) [] (omega (arith, whole)) (no-page from end)))) m

-- nothing was listed yet
pub pages_starved : (from end : List ℕ) (t : LinkTold) → Makes (Pages max_lists from end (Err turn.Memory)) t t
pages_starved from end t = pages_cut max_lists 0 from end from false turn.Memory t t t (omega arith) (pages_first max_lists from end t) (page_unlisted from end turn.Memory t t (list_none from end t))

-- ---- a turn

pub turns_unplaced : (t : LinkTold) → Makes (Turns (Err turn.Memory)) t t
turns_unplaced t = no_calls (Turns (Err turn.Memory)) t (inl (refl, refl))

pub drawn : (n : ℤ) (place : List ℕ) → place ≡ place_of n → pos 1 ≤ℤ n → IsPlace place
drawn n place is real = (n, real, is)

pub turns_stopped : (place : List ℕ) (f : TurnFault) (old new : LinkTold) → IsPlace place → Makes (Pages max_lists place behind (Err f)) old new → Makes (Turns (Err f)) old new
turns_stopped place f old new drawn m =
    made_as (Pages max_lists place behind (Err f)) (Turns (Err f)) old new
    (λ cs p. inr (record { place = place; drawn = drawn; first = Err f; own = cs; later = []; are = sym (append-nil cs); onward = p; after = (refl, refl) })) m

turns-round : (place : List ℕ) (damaged : Bool) (others : Result Bool TurnFault) (old mid new : LinkTold) → IsPlace place
    → Makes (Pages max_lists place behind (Ok damaged)) old mid → Makes (Pages max_lists [] place others) mid new → Makes (Turns (or_damaged damaged others)) old new
turns-round place damaged others old mid new drawn m k =
    made_then (Pages max_lists place behind (Ok damaged)) (Pages max_lists [] place others) (Turns (or_damaged damaged others)) old mid new
    (λ xs ys p q. inr (record { place = place; drawn = drawn; first = Ok damaged; own = xs; later = ys; are = refl; onward = p; after = (others, q, refl) }))
    m k

pub turns_whole : (place : List ℕ) (damaged also : Bool) (old mid new : LinkTold) → IsPlace place
    → Makes (Pages max_lists place behind (Ok damaged)) old mid → Makes (Pages max_lists [] place (Ok also)) mid new → Makes (Turns (Ok (damaged || also))) old new
turns_whole place damaged also old mid new drawn m k = turns-round place damaged (Ok also) old mid new drawn m k

pub turns_cut : (place : List ℕ) (damaged : Bool) (f : TurnFault) (old mid new : LinkTold) → IsPlace place
    → Makes (Pages max_lists place behind (Ok damaged)) old mid → Makes (Pages max_lists [] place (Err f)) mid new → Makes (Turns (Err f)) old new
turns_cut place damaged f old mid new drawn m k = turns-round place damaged (Err f) old mid new drawn m k
