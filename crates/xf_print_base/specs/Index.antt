-- How the code's own index of names is seen.
use Rattle.std.specs.Option.{option_map}
use Rattle.std.specs.Ordering.{nat_cmp}
use Rattle.std.specs.BTreeMap.{get}
use Rattle.xf_print_base.specs.declared.index.Defined.{Defined}
use Rattle.xf_print_base.specs.declared.index.Index.{Index}
use Rattle.xf_printed.specs.Names.{DefinedValues, Names, first_args}

abbrev pub entry_of : Defined → DefinedValues
entry_of d =
    record { number = d.number; results = d.op.now.results; first = d.first; args = first_args d.op.now.regions }

abbrev pub names_of : Index → Names
names_of i =
    record { entry = λ n. option_map entry_of (get nat_cmp i.entries n); number = i.number; argument = i.argument }
