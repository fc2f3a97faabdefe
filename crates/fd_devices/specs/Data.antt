-- The data of transformers and capacitor banks by their values in the script.
use Rattle.std.specs.Prelude.{[], ◌∷◌}
use Rattle.dss_layout.specs.dss_model.declared.transformer.Transformer.{Transformer}
use Rattle.dss_layout.specs.dss_model.declared.capacitor.Capacitor.{Capacitor}
use Rattle.fd_xfmr.specs.declared.data.XfmrData.{XfmrData}
use Rattle.fd_cap.specs.declared.data.CapData.{CapData}
use Rattle.fd_elements.specs.Connections.{conn_of}

-- the rated powers of the two windings are equal, so that of the first counts
abbrev pub xfmr_data_of : Transformer → XfmrData
xfmr_data_of t = record {
  phases = t.phases;
  conn = conn_of t.first.conn ∷ conn_of t.second.conn ∷ [];
  kv = t.first.kv ∷ t.second.kv ∷ [];
  kva = t.first.kva;
  pct_r = t.first.pct_r ∷ t.second.pct_r ∷ [];
  xhl = t.xhl;
}

abbrev pub cap_data_of : Capacitor → CapData
cap_data_of c = record { phases = c.phases; conn = conn_of c.conn; kvar = c.kvar; kv = c.kv }
