-- What the blocks of the two books share.
use Rattle.ev_link.specs.contracts.http_link.HttpLink as HttpLink
use Rattle.zk_service.specs.contracts.cause.Cause as Cause
use Rattle.zx_outside.specs.declared.sink.Sink as Sink
use Rattle.zx_outside.specs.declared.source.Source as Source
use Rattle.zp_run.specs.declared.trace.Trace as Trace
use Rattle.zp_server.specs.contracts.served.Served as Row
use Rattle.zp_server.specs.declared.served.Served as Declared
use Rattle.zp_server.specs.Books.{Ending, with_ending}
use Rattle.std.specs.Prelude.{List, [], ◌∷◌, ◌++◌, map, Option, Some, Result, Ok, Err, IfOk, OnOk, OnErr}
use Rattle.std.proofs.Common.{ap, ◌∙◌}
use Rattle.std.proofs.lemmas.List.{map_push}
use base.Fml.{Lft}
use base.Logic.{ent}
use borrow.Fn.Claims.{AllOf}
use borrow.Fn.Refines.{facts, facts_out, facts_in}
use contract.BorrowLft.{◌⊑◌, ⊑_trans}
use contract.Monad.{fact_use}
use denote.Enum.Declared.{variants}
use denote.Exit.{no}
use denote.Param.{param}
use denote.Param.Mute.{Mute, Mute-flat, Mute-seen, Mute-still, Mute-fields, Mute-variants, struct-Mute}
use denote.RattleType.{RattleType}
use denote.Struct.Declared.{fields}
use mathlib.Core.Path.{◌≡◌, refl}
use seplogic.Ra.Ura.{Ura}

-- What was served leaves nothing to say once it is taken, since none of its fields does.

link : (I O : RattleType) → Mute ((HttpLink.the_field (param 1 I) (param 2 O)).row.exit no)
link I O = Mute-fields no (fields (HttpLink.the_type (param 1 I) (param 2 O))) (
  Mute-seen (λ x. tt),
  (
    Mute-seen (λ x. tt),
    (
      Mute-flat (λ x w. refl) (λ x. tt),
      (
        Mute-still,
        (
          Mute-still,
          (
            Mute-still,
            (Mute-flat (λ x w. refl) (λ x. tt), (Mute-flat (λ x w. refl) (λ x. tt), tt)),
          ),
        ),
      ),
    ),
  ),
)

-- by what each cause holds: nothing, one number, two numbers or two texts
cause : Mute (Cause.the_field.row.exit no)
cause = Mute-variants no (variants Cause.the_type) (
  tt,
  (
    (Mute-still, tt),
    (
      tt,
      (
        tt,
        (
          (Mute-still, (Mute-still, tt)),
          (
            (Mute-still, tt),
            (
              tt,
              (
                tt,
                (
                  (Mute-still, (Mute-still, tt)),
                  (
                    (Mute-still, tt),
                    (
                      (Mute-still, tt),
                      (
                        (Mute-still, (Mute-still, tt)),
                        (
                          tt,
                          (
                            (Mute-still, (Mute-still, tt)),
                            (
                              tt,
                              ((Mute-flat (λ x w. refl) (λ x. tt), (Mute-flat (λ x w. refl) (λ x. tt), tt)), (tt, (tt, tt))),
                            ),
                          ),
                        ),
                      ),
                    ),
                  ),
                ),
              ),
            ),
          ),
        ),
      ),
    ),
  ),
)

pub quiet : (I O T : RattleType) (g : Source.Ghosts I.Denot) (g' : Sink.Ghosts O.Denot) (g'' : Trace.Ghosts T.Denot)
    → Mute ((Row.the_row (param 1 I) (param 2 O) (param 3 T) g g' g'').exit no)
quiet I O T g g' g'' = struct-Mute (Row.the_type (param 1 I) (param 2 O) (param 3 T) g g' g'') no
    (Mute-still, (Mute-still, (Mute-seen (λ x. tt), (Mute-seen (λ x. tt), (link I O, (Mute-seen (λ x. tt), (cause, tt)))))))

-- facts that follow from others
pub facts_give : {M : Type 1} (𝓤 : Ura M) (Φ Ψ : List (Type 0)) → (AllOf Φ → AllOf Ψ)
    → ent 𝓤 (facts 𝓤 Φ) (facts 𝓤 Ψ)
facts_give 𝓤 Φ Ψ h = fact_use 𝓤 (AllOf Φ) (facts_out 𝓤 Φ) (λ q. facts_in 𝓤 Ψ (h q) (facts 𝓤 Φ))

-- a book that is borrowed outlives the borrow, and so does what it holds
pub in_self : (b s l x : Lft) → b ⊑ s → s ⊑ l → l ⊑ x → b ⊑ x
in_self b s l x h i k = ⊑_trans b s x h (⊑_trans s l x i k)

pub if_ok : {A E : Type 0} {P : A → Type 0} (r : Result A E) → ((x : A) → P x) → IfOk r P
if_ok (Ok x) p = p x
if_ok (Err e) p = tt

pub on_ok : {A E P : Type 0} (r : Result A E) → P → OnOk r P
on_ok (Ok x) p = p
on_ok (Err e) p = tt

pub on_err : {A E P : Type 0} (r : Result A E) → P → OnErr r P
on_err (Ok x) p = tt
on_err (Err e) p = p

-- what a list of served connections tells grows as the list does
module _ {I O T : Type 0} (g : Source.Ghosts I) (g' : Sink.Ghosts O) (g'' : Trace.Ghosts T) where
  abbrev pub S : Type 0
  S = Declared.Served I O T g g' g''

  abbrev pub ending : S → Ending
  ending s = record { number = s.number; cause = s.cause }

  abbrev pub told_of : List S → Option (List Ending)
  told_of ss = Some (map ending ss)

  pub told : {E : Type 0} (old new : List S) (s : S) (r : Result (Unit {0}) E) → OnOk r (new ≡ old ++ s ∷ []) × OnErr r (new ≡ old)
      → OnOk r (told_of new ≡ with_ending (told_of old) (ending s)) × OnErr r (told_of new ≡ told_of old)
  told old new s (Ok x) q = (ap told_of q.0 ∙ ap Some (map_push ending old s), tt)
  told old new s (Err e) q = (tt, ap told_of q.1)
