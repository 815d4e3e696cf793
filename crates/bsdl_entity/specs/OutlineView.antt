-- What an entity of the code stands for.
use Rattle.std.specs.Prelude.{map}
use Rattle.bsdl_entity.specs.declared.entity.Outline as declared_outline
use Rattle.bsdl_entity.specs.Entity.{File}
use Rattle.bsdl_entity.specs.GivenView.{given}
use Rattle.bsdl_entity.specs.PortsView.{ports}

abbrev pub outline : declared_outline.Outline → File
outline o = record { ports = ports o.groups.items; given = map given o.given.items }
