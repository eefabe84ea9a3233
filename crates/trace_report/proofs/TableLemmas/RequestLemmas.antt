-- A request is decided.
use Rattle.trace_report.proofs.TableLemmas.Common.{Modem, Request, Operator, IsSound, verdict, said_by}
use Rattle.dsx_messages.specs.declared.message.Request.TheVariants.{Dsa, Dsc, Dsd}
use Rattle.trace_report.proofs.TableLemmas.TableLemmas.{IsDecided}
use Rattle.trace_report.proofs.TableLemmas.AdditionLemmas.{addition-decided}
use Rattle.trace_report.proofs.TableLemmas.ChangeLemmas.{change-decided}
use Rattle.trace_report.proofs.TableLemmas.DeletionLemmas.{deletion-decided}

pub request-decided : (op : Operator) (modem : Modem) (request : Request) → IsSound op → IsDecided op modem (said_by request) (verdict op modem request)
request-decided op modem (Dsa tid encodings) sound = addition-decided op sound modem tid encodings
request-decided op modem (Dsc tid encodings) sound = change-decided op sound modem tid encodings
request-decided op modem (Dsd tid sfid) sound = deletion-decided op sound modem tid sfid
