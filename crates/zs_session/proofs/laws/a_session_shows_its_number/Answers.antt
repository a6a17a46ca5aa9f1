use Rattle.zs_session.specs.Sessions.{attach_changes, attach_guards, attach_wants, new_session_changes, new_session_guards, session_wants}
use Rattle.zs_session.proofs.Welcomes.{number-welcomed}
use Rattle.zs_session.proofs.laws.a_session_shows_its_number.Goals as goal

pub returns-clause-opened : goal.returns-clause-opened
returns-clause-opened c = λ f timeout. number-welcomed (new_session_guards f.id) (new_session_changes f timeout) (session_wants f.id)

pub returns-clause-attached : goal.returns-clause-attached
returns-clause-attached c = λ id seen life. number-welcomed (attach_guards id seen) (attach_changes id life) (attach_wants id)
