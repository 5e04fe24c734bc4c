-- What the words of a trace name: the variants of the enums, in the order of their declarations.
use Rattle.std.specs.Prelude.{List}
use Rattle.pm_base.specs.contracts.Cb as cb
use Rattle.pm_base.specs.contracts.Req as req
use Rattle.pm_base.specs.declared.Cb.{Cb}
use Rattle.pm_base.specs.declared.Req.{Req}
use Rattle.pm_model.specs.contracts.event.Helper as helper
use Rattle.pm_model.specs.contracts.event.Word as word
use Rattle.pm_model.specs.declared.event.Helper.{Helper}
use Rattle.pm_model.specs.declared.event.Word.{Word}
use Rattle.pm_names.specs.EnumOrder.{every}

abbrev pub all_helpers : List Helper
all_helpers = every helper.enum

abbrev pub all_statuses : List Word
all_statuses = every word.enum

abbrev pub all_reqs : List Req
all_reqs = every req.enum

abbrev pub all_cbs : List Cb
all_cbs = every cb.enum
