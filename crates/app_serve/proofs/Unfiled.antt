-- What is left where the session can't be kept, or the ports not be written into their file.
use Rattle.std.proofs.Common.{◌≡◌, ℕ, List, Option, None, inl, inr, subst, sym}
use Rattle.std.specs.Prelude.{◌≢◌, ◌⊎◌, Result, Err, IfErr}
use Rattle.app_host.proofs.UnreadFiles.{keeps_same}
use Rattle.app_serve.specs.Kept.{WritesFiles}
use Rattle.def_format.specs.Documents.{Inquiry}
use Rattle.def_judgement.specs.Writes.{Source}
use Rattle.judge_runs.specs.Wishes.{Condition}
use Rattle.app_arguments.specs.Statuses.{HoldsDocument, OfConnections}
use Rattle.app_arguments.specs.Formats.{Format}
use Rattle.app_host.specs.FileSources.{ReadLeaves}
use Rattle.app_serve.specs.Served.{IsServed}
use Rattle.app_serve.specs.ServiceFaults.{service_ending}
use Rattle.app_serve.specs.declared.service_fault.ServiceFault.{ServiceFault}
use Rattle.app_serve.specs.declared.service_fault.ServiceFault.TheVariants as faults
use Rattle.judge_session.specs.declared.fault.EngineFault.TheVariants as engine
use Rattle.pd_report.specs.declared.report.Report.{Report}

pub unfiled : (format : Format) (fail_on : List Condition) (document : Inquiry) (G : Source → Type 0)
    (MayNotServe : Type 0)
    (keep port_file old : Option (List ℕ)) (result : Result Report ServiceFault) (fault : ServiceFault)
    → result ≡ Err fault
    → ((fault ≡ faults.Unkept) × (port_file ≢ None)) ⊎ (fault ≡ faults.Engine engine.Memory) → HoldsDocument document
    → ReadLeaves (OfConnections (IsServed format) G MayNotServe (WritesFiles keep port_file) fail_on document)
    (service_ending fail_on result) old old
unfiled format fail_on document G MayNotServe keep port_file old result fault is (inl fails) holds =
    subst (λ (r : Result Report ServiceFault).
    ReadLeaves (OfConnections (IsServed format) G MayNotServe (WritesFiles keep port_file) fail_on document)
    (service_ending fail_on r) old old)
    (sym is) (subst (λ (f : ServiceFault).
    ReadLeaves (OfConnections (IsServed format) G MayNotServe (WritesFiles keep port_file) fail_on document)
    (service_ending fail_on (Err f)) old old)
    (sym fails.0) (inr (inr fails.1, holds, keeps_same old)))
unfiled format fail_on document G MayNotServe keep port_file old result fault is (inr memory) holds =
    subst (λ (r : Result Report ServiceFault).
    ReadLeaves (OfConnections (IsServed format) G MayNotServe (WritesFiles keep port_file) fail_on document)
    (service_ending fail_on r) old old)
    (sym is) (subst (λ (f : ServiceFault).
    ReadLeaves (OfConnections (IsServed format) G MayNotServe (WritesFiles keep port_file) fail_on document)
    (service_ending fail_on (Err f)) old old)
    (sym memory) (keeps_same old))

-- the same where the folder can't be made, or a file in it
pub unkept : (format : Format) (fail_on : List Condition) (document : Inquiry) (G : Source → Type 0)
    (MayNotServe : Type 0)
    (keep port_file old : Option (List ℕ)) (result : Result Report ServiceFault) (fault : ServiceFault)
    → result ≡ Err fault
    → ((fault ≡ faults.Unkept) × (keep ≢ None)) ⊎ (fault ≡ faults.Engine engine.Memory) → HoldsDocument document
    → ReadLeaves (OfConnections (IsServed format) G MayNotServe (WritesFiles keep port_file) fail_on document)
    (service_ending fail_on result) old old
unkept format fail_on document G MayNotServe keep port_file old result fault is (inl fails) holds =
    subst (λ (r : Result Report ServiceFault).
    ReadLeaves (OfConnections (IsServed format) G MayNotServe (WritesFiles keep port_file) fail_on document)
    (service_ending fail_on r) old old)
    (sym is) (subst (λ (f : ServiceFault).
    ReadLeaves (OfConnections (IsServed format) G MayNotServe (WritesFiles keep port_file) fail_on document)
    (service_ending fail_on (Err f)) old old)
    (sym fails.0) (inr (inl fails.1, holds, keeps_same old)))
unkept format fail_on document G MayNotServe keep port_file old result fault is (inr memory) holds =
    unfiled format fail_on document G MayNotServe keep port_file old result fault is (inr memory) holds

-- which faults these are
pub unfiled_fault : (keep port_file : Option (List ℕ)) (result : Result Report ServiceFault) (fault : ServiceFault)
    → result ≡ Err fault
    → ((fault ≡ faults.Unkept) × (port_file ≢ None)) ⊎ (fault ≡ faults.Engine engine.Memory)
    → IfErr result (λ (f : ServiceFault). (f ≡ faults.Network) ⊎ (f ≡ faults.Late)
    ⊎ ((f ≡ faults.Unkept) × WritesFiles keep port_file) ⊎ (f ≡ faults.Engine engine.Memory)
    ⊎ (f ≡ faults.Engine engine.Write))
unfiled_fault keep port_file result fault is (inl fails) =
    subst (λ (r : Result Report ServiceFault). IfErr r (λ (f : ServiceFault). (f ≡ faults.Network) ⊎ (f ≡ faults.Late)
    ⊎ ((f ≡ faults.Unkept) × WritesFiles keep port_file) ⊎ (f ≡ faults.Engine engine.Memory)
    ⊎ (f ≡ faults.Engine engine.Write))) (sym is) (inr (inr (inl (fails.0, inr fails.1))))
unfiled_fault keep port_file result fault is (inr memory) =
    subst (λ (r : Result Report ServiceFault). IfErr r (λ (f : ServiceFault). (f ≡ faults.Network) ⊎ (f ≡ faults.Late)
    ⊎ ((f ≡ faults.Unkept) × WritesFiles keep port_file) ⊎ (f ≡ faults.Engine engine.Memory)
    ⊎ (f ≡ faults.Engine engine.Write))) (sym is) (inr (inr (inr (inl memory))))
