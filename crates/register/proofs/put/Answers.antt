use Rattle.register.proofs.Places.{added_found}
use Rattle.register.proofs.put.Goals as goal

pub returns-clause-found : goal.returns-clause-found
returns-clause-found g c = added_found c.args.at c.args.places.now g.R.Numbered.numbered c.args.item c.requires
