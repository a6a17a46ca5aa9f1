-- `ListBook` meets `Book`, by the steps of `NoBook`. What it tells grows as its list does.
use Rattle.zp_server.proofs.Booking.{quiet, facts_give, in_self, told}
use Rattle.zp_server.proofs.book.ListBookBook.TheImpl.Statement
use Rattle.zp_server.proofs.book.ListBookBook.take.Met
use Rattle.zp_server.proofs.book.ListBookBook.take.Symbol
use Rattle.zp_server.proofs.book.ListBookBook.trace.Met as Met'
use Rattle.zp_server.proofs.book.ListBookBook.trace.Symbol as Symbol'
use Rattle.zp_server.specs.contracts.book.Book.take
use Rattle.zp_server.specs.contracts.book.Book.trace
use Rattle.zp_server.specs.contracts.book.ListBook
use Rattle.zp_server.specs.contracts.book.ListBookBook.TheImpl
use Rattle.zp_server.specs.contracts.book.ListBookBook.take as take'
use Rattle.zp_server.specs.contracts.book.ListBookBook.trace as trace'
use Rattle.zp_run.specs.contracts.list.ListTrace
use Rattle.zp_run.specs.contracts.list.ListTraceTrace.TheImpl as TheImpl'
use base.Logic
use contract.BorrowLft
use contract.Lifetimes
use contract.Monad
use contract.Running
use denote.Param
use denote.Triple.Carry
use denote.Triple.End
use denote.Triple.Impl
use denote.Triple.Table
use mathlib.Core.Bool
use mathlib.Core.List
use mathlib.Core.Path as Path'
use mir.Syntax

pub bound : Statement.statement
bound = λ γ x x' I O lI lO gI sI gO sO eI eO M 𝓤 𝓛 𝓜 𝓡 mI mO nI nO.
    let Self = ListBook.the_row (Param.param 0 I) (Param.param 1 O) gI gO in
    let T = ListTrace.the_row in
    let D = TheImpl.dict I O gI sI gO sO eI eO in
    let own : Lifetimes.Lfts 5 → Lifetimes.Lfts 3 = λ τs. (τs.0, (I.lives, (O.lives, tt))) in
    let bounds : Lifetimes.Lfts 5 → Lifetimes.Lfts 4 = λ τs. (τs.1.0, (τs.1.1.0, (τs.1.1.1.0, (τs.1.1.1.1.0, tt)))) in
    let lives : Lifetimes.Lfts 5 → Lifetimes.Lfts 4 = λ τs. (Self.lives, (I.lives, (O.lives, (T.lives, tt)))) in
    let static = Monad.fact 𝓤 (BorrowLft.◌⊑◌ List.[] T.lives) in
    let living = Logic.sep 𝓤 static (Logic.emp 𝓤) in
    record {
      Self-T-lives = BorrowLft.⊑_static (List.◌++◌ Self.lives (List.◌++◌ I.lives O.lives));
      trace = λ d d' d''.
          let at = Syntax.method D 0 (Param.layouts List.[] tt) in
          let E = trace.ended Self I O T (TheImpl.ghosts I O gI sI gO sO eI eO)
          D TheImpl'.ghosts TheImpl'.dict gI sI gO sO d d' d'' in
          let C = trace.clauses Self I O T (TheImpl.ghosts I O gI sI gO sO eI eO)
          D TheImpl'.ghosts TheImpl'.dict gI sI gO sO d d' d'' 𝓛 𝓜.mem 𝓡.returns in
          let E' = trace'.ended I O gI sI gO sO eI eO in
          let C' = trace'.clauses I O gI sI gO sO eI eO 𝓛 𝓜.mem 𝓡.returns in
          Impl.implements 𝓛 E'.signature 5 E.signature.outlives own _ (Table.run_framed 𝓤 𝓛.H 𝓜 𝓡 (γ at))
          (trace'.spec I O gI sI gO sO eI eO 𝓛 𝓜.mem 𝓡.returns) _
          4 bounds lives ((0, tt), ((2, tt), ((3, tt), tt))) (λ τs a y. living)
          (λ τs a y. Logic.id⊢ 𝓤 _)
          (λ τs h. (
            (BorrowLft.⊑_refl τs.0, (h.1.1.0, (h.1.1.1.0, tt))),
            (
              in_self τs.0 τs.1.0 Self.lives I.lives h.0.0 h.1.0 (search Impl.inside),
              (in_self τs.0 τs.1.0 Self.lives O.lives h.0.0 h.1.0 (search Impl.inside), tt),
            ),
          ))
          (λ τs a y. y)
          (λ τs h a y. Logic.via 𝓤 (Logic.emp 𝓤) (Logic.snd∗ 𝓤 static (Logic.emp 𝓤))
          (Carry.insides_in 𝓤 2 (I.lives, (O.lives, tt)) (I.lives, (O.lives, tt)) (Logic.emp 𝓤)
          (BorrowLft.⊑_refl I.lives, (BorrowLft.⊑_refl O.lives, tt))))
          (λ τs a y r. Impl.hidden 3 (own τs) 𝓛 E'.signature.params E'.kept (Bool.true, tt) a
          (λ ws. (C' (own τs) a).ensures y r (End.outs {n = 3} (own τs) E'.signature.params E'.kept a ws))
          (λ ws. (C τs a).ensures y r (End.outs {n = 5} τs E.signature.params E.kept a ws))
          λ ws. Logic.id⊢ 𝓤 _)
          (Table.widened 𝓤 𝓛.H _ 𝓜 𝓡 γ _ _ (Symbol'.as_method γ x at Path'.refl)
          (Met'.met 𝓤 𝓛 𝓜 (Running.within 𝓤 𝓛.H 𝓜 𝓡 γ) x I O lI lO gI sI gO sO eI eO mI mO nI nO));
      take = λ d d' d''.
          let at = Syntax.method D 1 (Param.layouts List.[] tt) in
          let E = take.ended Self I O T (TheImpl.ghosts I O gI sI gO sO eI eO)
          D TheImpl'.ghosts TheImpl'.dict gI sI gO sO d d' d'' in
          let C = take.clauses Self I O T (TheImpl.ghosts I O gI sI gO sO eI eO)
          D TheImpl'.ghosts TheImpl'.dict gI sI gO sO d d' d'' 𝓛 𝓜.mem 𝓡.returns in
          let E' = take'.ended I O gI sI gO sO eI eO in
          let C' = take'.clauses I O gI sI gO sO eI eO 𝓛 𝓜.mem 𝓡.returns in
          Impl.implements 𝓛 E'.signature 5 E.signature.outlives own _ (Table.run_framed 𝓤 𝓛.H 𝓜 𝓡 (γ at))
          (take'.spec I O gI sI gO sO eI eO 𝓛 𝓜.mem 𝓡.returns) _
          4 bounds lives ((0, tt), ((2, tt), ((3, tt), tt))) (λ τs a y. living)
          (λ τs a y. Logic.id⊢ 𝓤 _)
          (λ τs h. (
            (BorrowLft.⊑_refl τs.0, (h.1.1.0, (h.1.1.1.0, tt))),
            (
              in_self τs.0 τs.1.0 Self.lives I.lives h.0.0 h.1.0 (search Impl.inside),
              (in_self τs.0 τs.1.0 Self.lives O.lives h.0.0 h.1.0 (search Impl.inside), tt),
            ),
          ))
          (λ τs a y. y)
          (λ τs h a y. Logic.via 𝓤 (Logic.emp 𝓤) (Logic.snd∗ 𝓤 static (Logic.emp 𝓤))
          (Carry.insides_in 𝓤 2 (I.lives, (O.lives, tt)) (I.lives, (O.lives, tt)) (Logic.emp 𝓤)
          (BorrowLft.⊑_refl I.lives, (BorrowLft.⊑_refl O.lives, tt))))
          (λ τs a y r. Logic.via 𝓤 _
          (Impl.hidden 3 (own τs) 𝓛 E'.signature.params E'.kept (Bool.true, (Bool.false, tt)) a
          (λ ws. (C' (own τs) a).ensures y r (End.outs {n = 3} (own τs) E'.signature.params E'.kept a ws))
          (λ ws. (C τs a).ensures y r (End.outs {n = 5} τs E.signature.params E.kept a
          (Impl.back 5 τs E.signature.params E.kept (Bool.true, (Bool.false, tt)) a ws)))
          λ ws. facts_give 𝓤 (List.◌∷◌ _ (List.◌∷◌ _ List.[])) (List.◌∷◌ _ (List.◌∷◌ _ List.[]))
          (λ q. told gI gO TheImpl'.ghosts _ _ _ r q))
          (Impl.shown 5 τs 𝓛 E.signature.params E.kept (Bool.true, (Bool.false, tt)) a
          (λ ws. (C τs a).ensures y r (End.outs {n = 5} τs E.signature.params E.kept a ws))
          (tt, (quiet I O T gI gO TheImpl'.ghosts, tt))))
          (Table.widened 𝓤 𝓛.H _ 𝓜 𝓡 γ _ _ (Symbol.as_method γ x' at Path'.refl)
          (Met.met 𝓤 𝓛 𝓜 (Running.within 𝓤 𝓛.H 𝓜 𝓡 γ) x' I O lI lO gI sI gO sO eI eO mI mO nI nO));
    }
