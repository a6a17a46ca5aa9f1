-- Where an ask makes no revision, the zxid of the last update stays.
use Rattle.std.proofs.Common.{◌≡◌, refl, sym, ap, ◌∙◌, arith, Bool, true, false, List, [], ◌∷◌, length, length-append}
use Rattle.std.specs.Prelude.{Some, None, if◌then◌else◌}
use Rattle.ev_types.specs.Denials.{carry, is_denied}
use Rattle.ev_types.specs.Store.{Change, Store, carried_out, grown, store_at, succeeds, chosen, txn_done, worked}
use Rattle.ev_types.specs.declared.answer.Answer.{Answer}
use Rattle.ev_types.specs.declared.ask.Ask.{Ask}
use Rattle.ev_types.specs.declared.ask.Ask.TheVariants as ask
use Rattle.zp_script.specs.Worlds.{zxid_at}
use Rattle.zx_base.proofs.Options.{none_some, some_is}

pub carried-is : (s : Store) (q : Ask) (x : Store × Answer) → carry s q ≡ Some x → carried_out s q ≡ x
unfolding carry
carried-is s q x h = go (is_denied s q) h
  where
    go : (b : Bool) → (if b then None else Some (carried_out s q)) ≡ Some x → carried_out s q ≡ x
    go true e = absurd (none_some e)
    go false e = some_is e

grown-still : (s : Store) (cs : List Change) → length (grown s cs).revisions ≡ length s.revisions → zxid_at (grown s cs) ≡ zxid_at s
grown-still s [] h = refl
grown-still s (c ∷ cs) h = absurd (omega (arith, h, length-append s.revisions ((c ∷ cs) ∷ [])))

done-still : (s : Store) (q : Ask) → length (carried_out s q).0.revisions ≡ length s.revisions → zxid_at (carried_out s q).0 ≡ zxid_at s
unfolding carried_out txn_done store_at
done-still s (ask.Txn t) h = grown-still s (worked s (chosen (succeeds s t) t)).changes h
done-still s (ask.Range q) h = refl
done-still s (ask.Grant id ttl) h = refl
done-still s (ask.Alive id) h = refl

pub still : (s t : Store) (q : Ask) (a : Answer) → carry s q ≡ Some (t, a) → length t.revisions ≡ length s.revisions → zxid_at t ≡ zxid_at s
still s t q a h same =
    let e : (carried_out s q).0 ≡ t = ap (λ (p : Store × Answer). p.0) (carried-is s q (t, a) h) in
    ap zxid_at (sym e) ∙ done-still s q (ap (λ (u : Store). length u.revisions) e ∙ same)
