-- The keys that stand for a state, after a put of another user outside `zk/`.
use Rattle.std.proofs.Common.{◌≡◌, ◌≢◌, ℤ, pos, cond, ◌++◌, drop, Option, Some, None, refl, sym, ap, ◌∙◌, subst, ⊎_elim, arith}
use Rattle.std.specs.Prelude.{◌≤ℤ◌, ◌<ℤ◌}
use Rattle.std.specs.FinMap.{get}
use Rattle.std.proofs.lemmas.Int.{ints, by_lt_z}
use Rattle.zx_base.specs.Maps.{Bytes}
use Rattle.zx_base.proofs.MapLaws.{either, same-refl, same-false}
use Rattle.zx_base.proofs.Options.{none_some}
use Rattle.ev_types.specs.declared.answer.Kv.{Kv}
use Rattle.ev_types.specs.Store.{Store, present, put_over, revision, last_revision}
use Rattle.ev_types.specs.Lapses.{foreign}
use Rattle.ev_types.proofs.Lapsed.{foreign-full, foreign-one, foreign-keys}
use Rattle.zk_service.specs.States.{State}
use Rattle.zn_layout.specs.Keys.{Key, HeadKey, DataKey, CountsKey, SessionKey, LeaseKey, front, key_bytes}
use Rattle.zn_layout.specs.StandsFor.{stored_of, at, Means, HeadMeans, StandsFor}

-- each key of the service begins with `zk/`
pub key_bytes-front : (k : Key) → key_bytes k ≡ front ++ drop 3 (key_bytes k)
unfolding key_bytes
key_bytes-front HeadKey = refl
key_bytes-front (DataKey p) = refl
key_bytes-front (CountsKey p) = refl
key_bytes-front (SessionKey n) = refl
key_bytes-front (LeaseKey n) = refl

same_some : {x y : Kv} → Some x ≡ Some y → x ≡ y
same_some e = cc

put_over-mod : (r : ℤ) (k v : Bytes) (lease : ℤ) (o : Option Kv) → (put_over r k v lease o).mod_revision ≡ r
put_over-mod r k v lease None = refl
put_over-mod r k v lease (Some old) = refl

module _ (s new : Store) (k v : Bytes) (done : foreign s k v ≡ Some new) where
  put : Kv
  put = put_over (revision new) k v (pos 0) (get (present s) k)

  own : get (present new) k ≡ Some put
  unfolding put
  own = foreign-keys s new k v k done ∙ ap (λ b. cond b (Some (put_over (revision new) k v (pos 0) (get (present s) k))) (get (present s) k)) (same-refl k)

  other : (q : Bytes) → q ≢ k → get (present new) q ≡ get (present s) q
  other q apart = foreign-keys s new k v q done ∙ ap (λ b. cond b (Some (put_over (revision new) k v (pos 0) (get (present s) k))) (get (present s) q)) (same-false q k apart)

  had_room : revision s <ℤ last_revision
  had_room = by_lt_z (revision s) last_revision (λ lt. lt) (λ full. absurd (none_some (sym (foreign-full s k v full) ∙ done)))

  put_least : pos 1 ≤ℤ revision new
  put_least = subst (λ (r : ℤ). pos 1 ≤ℤ r) (sym (foreign-one s new k v done)) (omega (arith, ints))

  put_most : revision new ≤ℤ last_revision
  put_most = subst (λ (r : ℤ). r ≤ℤ last_revision) (sym (foreign-one s new k v done)) (let room = had_room in omega (arith, ints))

  -- what holds of the new revision and of those that were there holds of those that are there
  revisions : (P : ℤ → Type 0) → P (revision new) → ((q : Bytes) (kv : Kv) → get (present s) q ≡ Some kv → P kv.mod_revision) → (q : Bytes) (kv : Kv) → get (present new) q ≡ Some kv → P kv.mod_revision
  unfolding put
  revisions P here there q kv h = ⊎_elim
      (λ e. let is : put ≡ kv = same_some (sym own ∙ ap (get (present new)) (sym e) ∙ h) in
      subst P (sym (put_over-mod (revision new) k v (pos 0) (get (present s) k)) ∙ ap (λ (x : Kv). x.mod_revision) is) here)
      (λ apart. there q kv (sym (other q apart) ∙ h))
      (either q k)

  module _ (outside : (rest : Bytes) → k ≡ front ++ rest → ⊥) where
    stays : (key : Key) → at (present new) key ≡ at (present s) key
    stays key = other (key_bytes key) (λ e. outside (drop 3 (key_bytes key)) (sym e ∙ key_bytes-front key))

    pub foreign-stands : (state : State) → StandsFor (present s) state → StandsFor (present new) state
    foreign-stands state h = record {
      head = subst (λ (o : Option Kv). HeadMeans o state) (sym (stays HeadKey)) h.head;
      each = λ key. subst (λ (o : Option Kv). Means state key (stored_of o)) (sym (stays key)) (h.each key);
      layout = record {
        no_other = λ rest kv e. h.layout.no_other rest kv (sym (other (front ++ rest) (λ same. outside rest (sym same))) ∙ e);
        least = revisions (λ r. pos 1 ≤ℤ r) put_least h.layout.least;
        most = revisions (λ r. r ≤ℤ last_revision) put_most h.layout.most;
      };
    }
