-- The identifiers of sub-channels, as a table of sub-channels lists them.
use Rattle.mux_types.specs.declared.parts.Sub.{Sub}
use Rattle.mux_tables.specs.declared.sub_table.ListedId.{ListedId}

abbrev pub listed : Sub → ListedId
listed s = record { id = s.id }
