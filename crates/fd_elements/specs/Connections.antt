-- The connection of a script as that of the physics.
use Rattle.dss_model.specs.fd_arith.declared.terms.Conn.{Conn}
use Rattle.dss_model.specs.fd_arith.declared.terms.Conn.TheVariants as conn
use Rattle.dss_model.specs.declared.words.Connection.{Connection}
use Rattle.dss_model.specs.declared.words.Connection.TheVariants as connection

abbrev pub conn_of : Connection → Conn
conn_of connection.Wye = conn.Wye
conn_of connection.Delta = conn.Delta
