use Rattle.std.proofs.Common.{◌≡◌, map}
use Rattle.pm_model.specs.NamedList.{place_named}
use Rattle.pm_model.proofs.PlaceNamed.{place_named-found, place_named-missing}
use Rattle.pm_model.proofs.named.NamedList.find.Goals as goal

pub returns-clause-found : goal.returns-clause-found
returns-clause-found g c =
    let is : c.find.result ≡ place_named c.args.name.now (map g.T.Named.name_of c.args.self.now) = cc in
    place_named-found _ _ _ is

pub returns-clause-missing : goal.returns-clause-missing
returns-clause-missing g c =
    let is : c.find.result ≡ place_named c.args.name.now (map g.T.Named.name_of c.args.self.now) = cc in
    place_named-missing _ _ _ is
