-- What is named is what is read and lacking, and all of it.
use Rattle.std.proofs.Common.{◌≡◌, ◌≢◌, ℤ, not, Bool, true, false, List, [], ◌∷◌, ◌++◌, Option, Some, None, refl, sym, ap, ◌∙◌, subst, ◌⊎◌, ⊎_elim, inl, inr}
use Rattle.std.specs.Prelude.{Contains, map, nat_abs, is_some, IsTrue, if◌then◌else◌}
use Rattle.std.proofs.lemmas.List.Elements.{Contains-get_or, Contains-push, Contains-append_left, Contains-push_cases}
use Rattle.std.proofs.lemmas.List.Quantifiers.{all_pairs_push}
use Rattle.zx_base.specs.Maps.{Bytes}
use Rattle.zk_model.specs.declared.reply.Reply.TheVariants as reply
use Rattle.zk_model.specs.declared.request.Request.{Request}
use Rattle.zk_model.specs.declared.request.Request.TheVariants as req
use Rattle.zk_model.specs.Codes.{bad_arguments}
use Rattle.zk_model.specs.Paths.{is_path}
use Rattle.zk_model.specs.Watches.{no_watches}
use Rattle.zk_service.specs.Answers.{told, told_of_path, plain_request}
use Rattle.zn_layout.specs.Keys.{Key, HeadKey, DataKey, LeaseKey, key_bytes}
use Rattle.zn_layout.specs.ReadingSteps.{IsPathOf}
use Rattle.zn_view.specs.declared.plan.Who.{Who}
use Rattle.zn_view.specs.declared.want.Want.{Want}
use Rattle.zn_view.specs.declared.want.Want.TheVariants as want
use Rattle.zn_view.specs.Needs.{key_want, Follows, IsRead, IsLacking, AreNeeds}
use Rattle.zn_view.specs.Seen.{View, listed}
use Rattle.zn_view.specs.Views.{reads, about_path}
use Rattle.zn_view.specs.Lacking.{lacking}
use Rattle.zn_view.proofs.Elements.{contains-first, contains-rest, contains-cases, contains-map, mapped-contained, empty-contains}
use Rattle.zn_view.proofs.Named.{AreApart, IsNamed, lacking-once, named_all, only_all}
use Rattle.zn_view.proofs.Wanted.{needs-from, no-needs}
use Rattle.zn_reads.specs.Wanting.{IsListingDue, with_listing, IsFormed, AreKeyNeeds, first_keys, AreListingWants}
use Rattle.zn_reads.proofs.Forms.{formed-exists, formed-get_data, formed-get_acl, formed-get_children, formed-get_children2, formed-check, formed-sync}

-- ---- the keys of a request

key_read : (r : Request) (who : Who) (v : View) (k : Key) → Contains (first_keys who ++ reads r who.session) k → IsRead r who v (key_want k)
key_read r who v k has = ⊎_elim
    (λ e. inl (ap key_want (sym e)))
    (λ h. ⊎_elim (λ e. inr (inl (ap key_want (sym e)))) (λ h. inr (inr (inl (k, h, refl)))) (contains-cases (LeaseKey (nat_abs who.session)) (reads r who.session) k h))
    (contains-cases HeadKey (LeaseKey (nat_abs who.session) ∷ reads r who.session) k has)

-- the keys that are read, in bytes
abbrev pub read_keys : Request → Who → List Bytes
read_keys r who = map key_bytes (first_keys who ++ reads r who.session)

named_read : (r : Request) (who : Who) (v : View) (w : Want) → IsNamed v (read_keys r who) w → IsRead r who v w × IsLacking v w
named_read r who v w named =
    let key = mapped-contained key_bytes (first_keys who ++ reads r who.session) named.0 named.1 in
    let is : key_want key.0 ≡ w = ap (λ (k : Bytes). want.Key k) (sym key.2) ∙ sym named.2 in
    (subst (λ (x : Want). IsRead r who v x) is (key_read r who v key.0 key.1), subst (λ (x : Want). IsLacking v x) (sym named.2) named.3)

listing_kept : (p : Bytes) (due : Bool) (ws : List Want) (w : Want) → Contains ws w → Contains (with_listing p due ws) w
listing_kept p true ws w has = Contains-append_left ws (want.Children p ∷ []) w has
listing_kept p false ws w has = has

listing_only : (p : Bytes) (due : Bool) (ws : List Want) (w : Want) → Contains (with_listing p due ws) w → Contains ws w ⊎ ((want.Children p ≡ w) × (due ≡ true))
listing_only p true ws w has = ⊎_elim (λ h. inl h) (λ e. inr (e, refl)) (Contains-push_cases ws (want.Children p) w has)
listing_only p false ws w has = inl has

-- what follows from the view is the listing that is due
pub record FollowsListing (r : Request) (who : Who) (v : View) (p : Bytes) (due : Bool) : Type 0 where
  pub only : due ≡ true → Follows r who.session v (want.Children p)
  pub lacks : due ≡ true → listed v p ≡ None
  pub all : (w : Want) → Follows r who.session v w → IsLacking v w → (want.Children p ≡ w) × (due ≡ true)

module _ (r : Request) (who : Who) (v : View) (p : Bytes) (due : Bool) (follows : FollowsListing r who v p due) where
  abbrev pub wanted : List Want
  wanted = with_listing p due (lacking v (read_keys r who))

  wanted_only : (w : Want) → Contains wanted w → IsRead r who v w × IsLacking v w
  wanted_only w has = ⊎_elim
      (λ h. ⊎_elim (λ none. absurd (empty-contains [] w refl none)) (λ named. named_read r who v w named) (only_all v (read_keys r who) [] w h))
      (λ h. (inr (inr (inr (subst (λ (x : Want). Follows r who.session v x) h.0 (follows.only h.1)))), subst (λ (x : Want). IsLacking v x) h.0 (follows.lacks h.1)))
      (listing_only p due (lacking v (read_keys r who)) w has)

  key_wanted : (w : Want) (k : Key) → Contains (first_keys who ++ reads r who.session) k → w ≡ key_want k → IsLacking v w → Contains wanted w
  key_wanted w k has is lacks = subst (Contains wanted) (sym is) (listing_kept p due (lacking v (read_keys r who)) (key_want k)
      (named_all v (read_keys r who) [] (key_bytes k) (contains-map key_bytes (first_keys who ++ reads r who.session) k has) (subst (λ (x : Want). IsLacking v x) is lacks)))

  listing_wanted : (w : Want) → Follows r who.session v w → IsLacking v w → Contains wanted w
  listing_wanted w h lacks =
      let all = follows.all w h lacks in
      subst (Contains wanted) all.0 (subst (λ (b : Bool). Contains (with_listing p b (lacking v (read_keys r who))) (want.Children p)) (sym all.1) (Contains-push (lacking v (read_keys r who)) (want.Children p)))

  wanted_all : (w : Want) → IsRead r who v w → IsLacking v w → Contains wanted w
  wanted_all w read lacks = ⊎_elim
      (λ e. key_wanted w HeadKey (contains-first HeadKey (LeaseKey (nat_abs who.session) ∷ reads r who.session)) e lacks)
      (λ h. ⊎_elim
      (λ e. key_wanted w (LeaseKey (nat_abs who.session)) (contains-rest HeadKey (LeaseKey (nat_abs who.session) ∷ reads r who.session) (LeaseKey (nat_abs who.session)) (contains-first (LeaseKey (nat_abs who.session)) (reads r who.session))) e lacks)
      (λ h. ⊎_elim
      (λ k. key_wanted w k.0 (contains-rest HeadKey (LeaseKey (nat_abs who.session) ∷ reads r who.session) k.0 (contains-rest (LeaseKey (nat_abs who.session)) (reads r who.session) k.0 k.1)) k.2 lacks)
      (λ f. listing_wanted w f lacks) h) h) read

  -- a listing is no key
  no_listing_named : (w : Want) → Contains (lacking v (read_keys r who)) w → w ≡ want.Children p → ⊥
  no_listing_named w has is = ⊎_elim
      (λ none. absurd (empty-contains [] w refl none))
      (λ named. let e : want.Children p ≡ want.Key named.0 = sym is ∙ named.2 in cc)
      (only_all v (read_keys r who) [] w has)

  wanted_once : AreApart wanted
  wanted_once = once due
    where
      once : (b : Bool) → AreApart (with_listing p b (lacking v (read_keys r who)))
      once true = all_pairs_push (λ (w u : Want). w ≢ u) (lacking v (read_keys r who)) (want.Children p) (lacking-once v (read_keys r who)) (λ i d lt is. no_listing_named _ (Contains-get_or (lacking v (read_keys r who)) i d lt) is)
      once false = lacking-once v (read_keys r who)

  pub wanted-needed : plain_request no_watches r ≡ None → AreNeeds r who v wanted
  wanted-needed plain = needs-from r who v wanted wanted_only wanted_all wanted_once plain

-- ---- by the path

path_formed : (r : Request) (text p : Bytes) → IsFormed r text → IsPathOf text (Some p) → plain_request no_watches r ≡ None
path_formed r text p formed path = formed ∙ ap (λ b. if b then None else told no_watches (reply.Refused bad_arguments)) (subst (λ (q : Bytes). IsTrue (is_path q)) path.0 path.1)

bad_formed : (text : Bytes) (b : Bool) → is_path text ≡ b → (IsTrue (is_path text) → ⊥) → told_of_path no_watches text ≡ told no_watches (reply.Refused bad_arguments)
bad_formed text true h bad = absurd (bad h)
bad_formed text false h bad = ap (λ b. if b then None else told no_watches (reply.Refused bad_arguments)) h

-- a request whose path isn't valid reads nothing
pub no_path-needed : (r : Request) (who : Who) (v : View) (text : Bytes) → IsFormed r text → IsPathOf text None → AreNeeds r who v []
no_path-needed r who v text formed bad = no-needs r who v _ [] refl (formed ∙ bad_formed text (is_path text) refl bad)

pub no_listing : (r : Request) (who : Who) (v : View) (p : Bytes) → ((w : Want) → Follows r who.session v w → ⊥) → FollowsListing r who v p false
no_listing r who v p none = record {
  only = λ e. cc;
  lacks = λ e. cc;
  all = λ w h lacks. absurd (none w h);
}

-- keys alone
pub keys-needed : (text p : Bytes) (ks : List Key) (who : Who) (v : View) (ws : List Want) → IsPathOf text (Some p) → ws ≡ lacking v (map key_bytes (first_keys who ++ ks)) → AreKeyNeeds text ks who v ws
keys-needed text p ks who v ws path is r formed reads_are none =
    let all : lacking v (read_keys r who) ≡ ws = ap (λ (l : List Key). lacking v (map key_bytes (first_keys who ++ l))) reads_are ∙ sym is in
    subst (λ (l : List Want). AreNeeds r who v l) all (wanted-needed r who v p false (no_listing r who v p none) (path_formed r text p formed path))

pub no_path-key_needed : (text : Bytes) (ks : List Key) (who : Who) (v : View) (ws : List Want) → IsPathOf text None → ws ≡ [] → AreKeyNeeds text ks who v ws
no_path-key_needed text ks who v ws bad is r formed reads_are none = subst (λ (l : List Want). AreNeeds r who v l) (sym is) (no_path-needed r who v text formed bad)

-- ---- each kind

pub exists-needed : (text : Bytes) (watch : Bool) (who : Who) (v : View) (ws : List Want) → AreKeyNeeds text (about_path text) who v ws → AreNeeds (req.Exists text watch) who v ws
unfolding reads
exists-needed text watch who v ws h = h (req.Exists text watch) (formed-exists text watch) refl (λ w f. f)

pub get_data-needed : (text : Bytes) (watch : Bool) (who : Who) (v : View) (ws : List Want) → AreKeyNeeds text (about_path text) who v ws → AreNeeds (req.GetData text watch) who v ws
unfolding reads
get_data-needed text watch who v ws h = h (req.GetData text watch) (formed-get_data text watch) refl (λ w f. f)

pub get_acl-needed : (text : Bytes) (who : Who) (v : View) (ws : List Want) → AreKeyNeeds text (about_path text) who v ws → AreNeeds (req.GetAcl text) who v ws
unfolding reads
get_acl-needed text who v ws h = h (req.GetAcl text) (formed-get_acl text) refl (λ w f. f)

pub check-needed : (text : Bytes) (version : ℤ) (who : Who) (v : View) (ws : List Want) → AreKeyNeeds text (DataKey text ∷ []) who v ws → AreNeeds (req.Check text version) who v ws
unfolding reads
check-needed text version who v ws h = h (req.Check text version) (formed-check text version) refl (λ w f. f)

pub sync-needed : (text : Bytes) (who : Who) (v : View) (ws : List Want) → AreKeyNeeds text [] who v ws → AreNeeds (req.Sync text) who v ws
unfolding reads
sync-needed text who v ws h = h (req.Sync text) (formed-sync text) refl (λ w f. f)

-- ---- getChildren

follows_names : (p : Bytes) (watch : Bool) (who : Who) (v : View) (due : Bool) → IsListingDue v p due → FollowsListing (req.GetChildren p watch) who v p due
follows_names p watch who v due h = record {
  only = λ e. refl;
  lacks = h.lacks;
  all = λ w f lacks. (sym f, h.all (subst (λ (x : Want). IsLacking v x) f lacks));
}

follows_stat : (p : Bytes) (watch : Bool) (who : Who) (v : View) (due : Bool) → IsListingDue v p due → FollowsListing (req.GetChildren2 p watch) who v p due
follows_stat p watch who v due h = record {
  only = λ e. refl;
  lacks = h.lacks;
  all = λ w f lacks. (sym f, h.all (subst (λ (x : Want). IsLacking v x) f lacks));
}

pub get_children-needed : (text p : Bytes) (watch : Bool) (who : Who) (v : View) (ws : List Want) → IsPathOf text (Some p) → AreListingWants p who v ws → AreNeeds (req.GetChildren text watch) who v ws
unfolding reads
get_children-needed text p watch who v ws path wants =
    let here = subst (λ (q : Bytes). AreListingWants q who v ws) path.0 wants in
    subst (λ (l : List Want). AreNeeds (req.GetChildren text watch) who v l) (sym here.2)
    (wanted-needed (req.GetChildren text watch) who v text here.0 (follows_names text watch who v here.0 here.1) (path_formed (req.GetChildren text watch) text p (formed-get_children text watch) path))

pub get_children2-needed : (text p : Bytes) (watch : Bool) (who : Who) (v : View) (ws : List Want) → IsPathOf text (Some p) → AreListingWants p who v ws → AreNeeds (req.GetChildren2 text watch) who v ws
unfolding reads
get_children2-needed text p watch who v ws path wants =
    let here = subst (λ (q : Bytes). AreListingWants q who v ws) path.0 wants in
    subst (λ (l : List Want). AreNeeds (req.GetChildren2 text watch) who v l) (sym here.2)
    (wanted-needed (req.GetChildren2 text watch) who v text here.0 (follows_stat text watch who v here.0 here.1) (path_formed (req.GetChildren2 text watch) text p (formed-get_children2 text watch) path))

-- the children weren't listed
unlisted : (o : Option (List Bytes)) → not (is_some o) ≡ true → o ≡ None
unlisted None h = refl
unlisted (Some ps) h = cc

pub listing-due : (v : View) (p : Bytes) → IsListingDue v p (not (is_some (listed v p)))
listing-due v p = record {
  lacks = unlisted (listed v p);
  all = λ none. ap (λ (x : Option (List Bytes)). not (is_some x)) none;
}
