use Rattle.register.proofs.Places.{struck_found}
use Rattle.register.proofs.close_gap.Goals as goal

pub returns-clause-found : goal.returns-clause-found
returns-clause-found g c n k used e = struck_found n c.args.places.now g.R.Numbered.numbered k c.args.at c.args.end c.copy_within.new.self used c.copy_within.ensures.after e
