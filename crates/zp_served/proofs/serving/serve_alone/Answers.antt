use Rattle.std.proofs.Common.{refl}
use Rattle.zp_served.proofs.Begun.{lawful}
use Rattle.zp_served.proofs.serving.serve_alone.Goals as goal

pub returns : goal.returns
returns g c = lawful c.args.fresh _ _ c.serve_connection.result c.args.link.now.link.told c.serve_connection.new.link.link.told c.serve_connection.new.link.link.store c.serve_connection.ensures.serves c.requires.begun refl refl c.serve_connection.new.link.honest
