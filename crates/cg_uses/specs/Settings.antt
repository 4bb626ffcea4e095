-- The setting that the code's references stand for.
use Rattle.cg_uses.specs.declared.settings.Around.{Around}
use Rattle.cg_uses.specs.Statements.{Setting}

abbrev pub setting_of : Around → Setting
setting_of a =
    record { types = a.types.now; variables = a.variables.now; function = a.function; results = a.results.now }
