-- What an element is of one class: the transformer, the bank or the load that it is, alone in a list, and nothing where it is of another
-- class. A law of one class that speaks of these has no case for any other.
use Rattle.std.specs.Prelude.{List, [], ◌∷◌}
use Rattle.dss_layout.specs.dss_model.declared.transformer.Transformer.{Transformer}
use Rattle.dss_layout.specs.dss_model.declared.capacitor.Capacitor.{Capacitor}
use Rattle.dss_layout.specs.dss_model.declared.load.Load.{Load}
use Rattle.dss_layout.specs.dss_model.declared.element.Element.{Element}
use Rattle.dss_layout.specs.dss_model.declared.element.Element.TheVariants as the

abbrev pub transformers_in : Element → List Transformer
transformers_in (the.Transformer xfmr) = xfmr ∷ []
transformers_in other = []

abbrev pub banks_in : Element → List Capacitor
banks_in (the.Capacitor bank) = bank ∷ []
banks_in other = []

abbrev pub loads_in : Element → List Load
loads_in (the.Load load) = load ∷ []
loads_in other = []
