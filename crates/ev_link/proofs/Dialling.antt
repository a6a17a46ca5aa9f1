-- What a call of a link that dials came to.
use Rattle.std.proofs.Common.{◌≡◌, inl, inr, true, false, List, [], ◌∷◌, ◌++◌, refl, ◌∙◌}
use Rattle.std.specs.Prelude.{is_some, IsErr, IsOk, option_map, Option, Some, None, Result, Ok, Err}
use Rattle.zx_net.specs.Nets.{NetCounts, counts_after_dial}
use Rattle.ev_call.specs.Calls.{Call}
use Rattle.ev_call.specs.declared.etcd.CallFault.TheVariants as fault
use Rattle.ev_link.specs.Dialling.{Dials, DialsFirst, undialled}

none_in : {T : Type 0} (f : T → List Call) (o : Option T) → is_some o ≡ false → option_map f o ≡ None
none_in f None none = refl
none_in f (Some l) none = absurd (cc)

kept : {A E : Type 0} (r : Result A E) (n : NetCounts) → IsOk r → counts_after_dial r n ≡ n
kept (Ok x) n h = refl
kept (Err e) n h = absurd (cc)

raised : {A E : Type 0} (r : Result A E) (n : NetCounts) → IsErr r → counts_after_dial r n ≡ undialled n
raised (Ok x) n h = absurd (cc)
raised (Err e) n h = refl

is_failed : {A E : Type 0} (r : Result A E) (e : E) → r ≡ Err e → IsErr r
is_failed (Ok x) e h = absurd (cc)
is_failed (Err d) e h = refl

-- ---- the first call of a link

pub no_dial : {T A E : Type 0} (f : T → List Call) (o : Option T) (c : Call) (r : Result A E) (e : E) → is_some o ≡ false → c.result ≡ Err fault.Failed → r ≡ Err e → DialsFirst (option_map f o) c r
no_dial f o c r e none failed is = inr (inl (none_in f o none, failed, is_failed r e is))

pub no_memory : {T A E : Type 0} (f : T → List Call) (o : Option T) (c : Call) (r : Result A E) → is_some o ≡ false → c.result ≡ Err fault.Memory → IsOk r → DialsFirst (option_map f o) c r
no_memory f o c r none starved ok = inr (inr (none_in f o none, starved, ok))

-- ---- any call

pub one_more : {T : Type 0} (f : T → List Call) (old new : Option T) (c : Call) (n m : NetCounts) → is_some old ≡ true
    → ((calls : List Call) → option_map f old ≡ Some calls → option_map f new ≡ Some (calls ++ c ∷ [])) → m ≡ n → Dials (option_map f old) (option_map f new) c n m
one_more f None new c n m some h same = absurd (cc)
one_more f (Some l) new c n m some h same = (h (f l) refl, same)

counted : {A E : Type 0} (after : Option (List Call)) (c : Call) (r : Result A E) (n m : NetCounts) → DialsFirst after c r → m ≡ counts_after_dial r n → Dials None after c n m
counted after c r n m (inl h) e = inl (h.0, e ∙ kept r n h.1)
counted after c r n m (inr (inl h)) e = inr (inl (h.0, h.1, e ∙ raised r n h.2))
counted after c r n m (inr (inr h)) e = inr (inr (h.0, h.1, e ∙ kept r n h.2))

pub by_dial : {T A E : Type 0} (f : T → List Call) (old : Option T) (after : Option (List Call)) (c : Call) (r : Result A E) (n m : NetCounts) → is_some old ≡ false → DialsFirst after c r → m ≡ counts_after_dial r n
    → Dials (option_map f old) after c n m
by_dial f None after c r n m none h e = counted after c r n m h e
by_dial f (Some l) after c r n m none h e = absurd (cc)
